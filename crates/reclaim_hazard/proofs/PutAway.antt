-- What retiring does: with the record in the bag, and with the bag scanned.
use Rattle.std.proofs.Common.{◌≡◌, ℕ, ◌+◌, ◌-◌, ◌*◌, ◌<◌, ◌≤◌, List, [], ◌∷◌, ◌++◌, set, get_or, append-nil, append_assoc, Option, Some, sym, refl, ap, ◌∙◌, subst, arith}
use Rattle.record_memory.specs.declared.books.Setup.{Setup}
use Rattle.record_memory.specs.declared.books.View.{View}
use Rattle.record_memory.specs.declared.books.Share.{Share}
use Rattle.record_memory.specs.declared.steps.Step.{Step}
use Rattle.row_words.specs.Refs.{RefParts}
use Rattle.row_words.specs.Packing.{packed_number}
use Rattle.row_words.specs.declared.links.Freed.{Freed}
use Rattle.record_rule.specs.Kinds.{idle}
use Rattle.record_rule.specs.Links.{retired_share}
use Rattle.record_rule.specs.Standings.{is_limbo}
use Rattle.reclaim_api.specs.Frames.{had}
use Rattle.reclaim_api.specs.Putting.{bagged_share, HasKept}
use Rattle.reclaim_api.specs.StepForms.{IsNoneFreed, stamp_store, chain_store}
use Rattle.reclaim_api.proofs.Putting.{put_idle, put_had, put_mine, put_steps}
use Rattle.reclaim_hazard.specs.Running.{words_of, Scans, ScansIfFull, waits, scans, PutsAway}

module _ (v u : View) (r : RefParts) (kept : HasKept v r 0 u) (setup : Setup) where
  abbrev found : ℕ
  found = get_or (retired_share kept.share (packed_number r.generation 0)).words 1 0

  -- what the caller knows of all records then
  abbrev bagged : List (Option Share)
  bagged = set v.own.mine (r.index - 1) (Some (bagged_share kept.share r 0 kept.next))

  mine_is : u.own.mine ≡ bagged
  mine_is = put_mine v r kept.share 0 kept.taken u kept.next kept.view

  idle_is : idle u.own ≡ idle v.own
  idle_is = put_idle v r kept.share 0 kept.taken u kept.still

  more : had is_limbo u.own ≡ had is_limbo v.own + 1
  more = put_had v r kept.share 0 kept.taken u kept.still

  puts : (w : View) (f : Freed) (made : List Step) → w.own.steps ≡ u.own.steps ++ made → ScansIfFull setup v.own bagged made f w.own → PutsAway setup v.own r f w.own
  puts w f made steps scan = record {
    share = kept.share;
    known = kept.taken.known;
    stamped = get_or kept.share.words 2 0;
    chained = found;
    next = kept.next;
    before = kept.before;
    made = made;
    scan = scan;
    steps = steps ∙ ap (λ (l : List Step). l ++ made) (put_steps v r kept.share 0 kept.taken u kept.next kept.view) ∙ append_assoc v.own.steps (stamp_store v.own r 0 (get_or kept.share.words 2 0) ∷ chain_store v.own r kept.next found ∷ []) made;
  }

  -- the bag isn't full
  pub puts_waiting : (f : Freed) → IsNoneFreed f → had is_limbo u.own < 2 * words_of setup → PutsAway setup v.own r f u.own
  puts_waiting f none few = puts u f [] (sym (append-nil u.own.steps)) (waits (let m = more in omega arith) record { none = refl; freed = none; mine_is = mine_is })

  -- it is scanned
  pub puts_scanning : (w : View) (f : Freed) → 2 * words_of setup ≤ had is_limbo u.own → (made : List Step) × (w.own.steps ≡ u.own.steps ++ made) × Scans setup (idle u.own) u.own.mine made f w.own → PutsAway setup v.own r f w.own
  puts_scanning w f full s = puts w f s.0 s.1 (scans (let m = more in omega arith) (subst (λ (x : ℕ × List (Option Share)). Scans setup x.0 x.1 s.0 f w.own) (λ k. (idle_is k, mine_is k)) s.2))
