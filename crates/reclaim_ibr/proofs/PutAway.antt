-- What retiring leaves and does: with the epoch loaded and the record in the bag, and with the bag scanned.
use Rattle.std.proofs.Common.{◌≡◌, ◌≢◌, ℕ, ◌+◌, ◌-◌, ◌%◌, List, [], ◌∷◌, ◌++◌, set, get_or, append-nil, append_assoc, Bool, true, Option, Some, None, sym, refl, ap, ◌∙◌, subst}
use Rattle.record_memory.specs.declared.books.Book.{Book}
use Rattle.record_memory.specs.declared.books.Guard.{Guard}
use Rattle.record_memory.specs.declared.books.Moves.{Moves}
use Rattle.record_memory.specs.declared.books.Setup.{Setup}
use Rattle.record_memory.specs.declared.books.View.{View}
use Rattle.record_memory.specs.declared.books.Share.{Share}
use Rattle.record_memory.specs.declared.steps.Step.{Step}
use Rattle.row_words.specs.Refs.{RefParts}
use Rattle.row_words.specs.Packing.{packed_number}
use Rattle.row_words.specs.declared.links.Chain.{Chain}
use Rattle.row_words.specs.declared.links.Freed.{Freed}
use Rattle.record_rule.specs.Facts.{LimboRecord}
use Rattle.record_rule.specs.Kinds.{idle, retired_one}
use Rattle.record_rule.specs.Links.{retired, retired_share}
use Rattle.guard_facts.specs.Announcing.{reading}
use Rattle.reclaim_api.specs.Bags.{bag_count}
use Rattle.reclaim_api.specs.Frames.{in_rest, FreesInto, LeavesRecords, LeavesRestBut}
use Rattle.reclaim_api.specs.Putting.{IsHeadFor, bagged_share, HasKept}
use Rattle.reclaim_api.specs.StepForms.{IsNoneFreed, epoch_load, stamp_store, chain_store}
use Rattle.reclaim_api.proofs.Putting.{put_idle, put_frees, put_rest, put_mine, put_steps, frees_then}
use Rattle.reclaim_api.proofs.Stills.{still_guard, still_moves}
use Rattle.reclaim_ibr.specs.LocalParts.{EACH}
use Rattle.reclaim_ibr.specs.Retiring.{Scans, ScansIfDue, waits, scans, PutsAway}
use Rattle.reclaim_ibr.specs.Steps.{epoch_read, HasRead}
use Rattle.reclaim_ibr.proofs.Entering.{records_frees}

-- the record in the bag leaves the rest, and frees nothing, where the load before left all records
module _ (v t u : View) (r : RefParts) (e : ℕ) (read : LeavesRecords v t) (kept : HasKept t r e u) where
  pub kept_frees : (free : Chain) (f : Freed) → IsNoneFreed f → FreesInto v free f u free
  kept_frees free f none = frees_then v t u free free f (records_frees v t free _ read refl refl) (put_frees t r kept.share e kept.taken u kept.still free f none)

  pub kept_rest : LeavesRestBut r.index v u
  kept_rest = let a = put_rest t r kept.share e kept.taken u kept.still in record {
    rest = λ j ne. a.rest j ne ∙ ap (λ (l : List (Option Share)). in_rest (get_or l j None)) read.mine;
    gone = a.gone;
    moves = subst (λ (m : Moves). record u.own.moves { freed = m.freed } ≡ retired_one m) read.moves a.moves;
    answered = a.answered ∙ read.answered;
    locks = a.locks ∙ read.locks;
    front = a.front ∙ read.front;
  }

-- a record in limbo is so for each book that knows the same of the records
head_same : (test : LimboRecord → Bool) (b c : Book) (next : Option RefParts) → c.mine ≡ b.mine → IsHeadFor test b next → IsHeadFor test c next
head_same test b c None same h = ap (λ (l : List (Option Share)). bag_count test (record b { mine = l })) same ∙ h
head_same test b c (Some q) same h = (h.0, ap (λ (l : List (Option Share)). get_or l (q.index - 1) None) same ∙ h.1, h.2, h.3, h.4)

-- the record in the bag, of what was known once the epoch was loaded
kept_after : (v t u : View) (r : RefParts) (e : ℕ) (read : HasRead v e t) → HasKept t r e u → HasKept (epoch_read v e read.taken_out) r e u
kept_after v t u r e read kept = subst (λ (x : View). HasKept x r e u) read.view kept

module _ (v t u : View) (r : RefParts) (e : ℕ) (read : HasRead v e t) (told : HasKept t r e u) (setup : Setup) where
  abbrev loaded : View
  loaded = epoch_read v e read.taken_out

  abbrev kept : HasKept loaded r e u
  kept = kept_after v t u r e read told

  abbrev then : View
  then = retired loaded r kept.share e

  abbrev found : ℕ
  found = get_or (retired_share kept.share (packed_number r.generation e)).words 1 0

  -- what the caller knows of all records then
  abbrev bagged : List (Option Share)
  bagged = set v.own.mine (r.index - 1) (Some (bagged_share kept.share r e kept.next))

  mine_is : u.own.mine ≡ bagged
  mine_is = put_mine loaded r kept.share e kept.taken u kept.next kept.view

  idle_is : idle u.own ≡ idle v.own
  unfolding idle
  idle_is = put_idle loaded r kept.share e kept.taken u kept.still

  -- one more was retired
  many_retired : u.own.moves.retired ≡ v.own.moves.retired + 1
  many_retired = ap (λ (m : Moves). m.retired) (still_moves then u kept.still)

  steps_are : u.own.steps ≡ v.own.steps ++ epoch_load v.own e ∷ stamp_store v.own r e (get_or kept.share.words 2 0) ∷ chain_store v.own r kept.next found ∷ []
  unfolding idle
  steps_are = put_steps loaded r kept.share e kept.taken u kept.next kept.view ∙ append_assoc v.own.steps (epoch_load v.own e ∷ []) (stamp_store v.own r e (get_or kept.share.words 2 0) ∷ chain_store v.own r kept.next found ∷ [])

  puts : (w : View) (f : Freed) (made : List Step) → w.own.guard ≡ u.own.guard → w.own.steps ≡ u.own.steps ++ made → ScansIfDue setup v.own bagged made f w.own → PutsAway setup v.own r f w.own
  puts w f made guard steps scan = record {
    epoch = e;
    rise = read.rise;
    limit = read.limit;
    read = ap (λ (g : Guard). reading g 0) (guard ∙ still_guard then u kept.still);
    share = kept.share;
    known = kept.taken.known;
    stamped = get_or kept.share.words 2 0;
    chained = found;
    next = kept.next;
    before = head_same (λ x. true) loaded.own v.own kept.next refl kept.before;
    made = made;
    scan = scan;
    steps = steps ∙ ap (λ (l : List Step). l ++ made) steps_are ∙ append_assoc v.own.steps (epoch_load v.own e ∷ stamp_store v.own r e (get_or kept.share.words 2 0) ∷ chain_store v.own r kept.next found ∷ []) made;
  }

  -- no scan is due
  pub puts_waiting : (f : Freed) → IsNoneFreed f → u.own.moves.retired % EACH ≢ 0 → PutsAway setup v.own r f u.own
  puts_waiting f none off = puts u f [] refl (sym (append-nil u.own.steps)) (waits (λ due. off (ap (λ (n : ℕ). n % EACH) many_retired ∙ due)) record { none = refl; freed = none; mine_is = mine_is })

  -- it is scanned
  pub puts_scanning : (w : View) (f : Freed) → w.own.guard ≡ u.own.guard → u.own.moves.retired % EACH ≡ 0 → (made : List Step) × (w.own.steps ≡ u.own.steps ++ made) × Scans setup (idle u.own) u.own.mine made f w.own → PutsAway setup v.own r f w.own
  puts_scanning w f guard due s = puts w f s.0 guard s.1 (scans (sym (ap (λ (n : ℕ). n % EACH) many_retired) ∙ due) (subst (λ (x : ℕ × List (Option Share)). Scans setup x.0 x.1 s.0 f w.own) (λ k. (idle_is k, mine_is k)) s.2))
