-- Entering as a whole: the epoch was read, the scan went on, and the caller announced itself.
use Rattle.std.proofs.Common.{◌≡◌, ℕ, ◌+◌, ◌-◌, ◌*◌, List, [], ◌∷◌, ◌++◌, All, map, get_or, Bool, true, false, cond, eqb, Option, None, sym, refl, ap, ◌∙◌, subst, arith}
use Rattle.std.specs.List.{count_by}
use Rattle.record_memory.specs.declared.steps.Step.{Step}
use Rattle.record_memory.specs.declared.steps.Word.TheVariants.{Announced}
use Rattle.record_memory.specs.declared.books.Setup.{Setup}
use Rattle.record_memory.specs.declared.books.Book.{Book}
use Rattle.record_memory.specs.declared.books.View.{View}
use Rattle.record_memory.specs.declared.books.Guard.{Guard}
use Rattle.record_memory.specs.declared.books.Moves.{Moves}
use Rattle.record_memory.specs.declared.books.Share.{Share}
use Rattle.record_memory.specs.declared.books.Standing.{Standing}
use Rattle.record_memory.specs.declared.books.Standing.TheVariants.{Free}
use Rattle.row_words.specs.declared.links.Chain.{Chain}
use Rattle.row_words.specs.declared.links.Freed.{Freed}
use Rattle.record_rule.specs.ChainRows.{IsRowStep, unchained}
use Rattle.record_rule.specs.Standings.{is_limbo, is_spent}
use Rattle.reclaim_api.specs.Chained.{IsChainOf}
use Rattle.reclaim_api.specs.Frames.{in_rest, is_as, IsLimboLeft, FreesInto, LeavesRest, LeavesRecords}
use Rattle.reclaim_api.specs.StepForms.{epoch_load, epoch_exchange, announcement_load, word_store}
use Rattle.reclaim_api.proofs.Kept.{Stays, chain_stays}
use Rattle.guard_facts.specs.Announcing.{reading}
use Rattle.debra_facts.specs.Rounds.{is_passed, reads_anew, debra_at}
use Rattle.reclaim_debra.specs.Running.{place_from, ShiftsIfNew, same, anew, Looks, no_look, one_look, Tries, no_try, one_try, Enters}
use Rattle.reclaim_debra.specs.Entering.{HasRead, HasScanned, HasAnnounced}
use Rattle.reclaim_debra.proofs.Scans.{same_idle}

-- Where the same is known of each record, chains and counts are as they were
pub mine_stays : (standing : Standing) (v w : View) → w.own.mine ≡ v.own.mine → Stays standing v w
mine_stays standing v w mine i h known is = ap (λ (l : List (Option Share)). get_or l (i - 1) None) mine ∙ known

pub records_free : (v w : View) (free : Chain) → w.setup ≡ v.setup → LeavesRecords v w → IsChainOf Free v free → IsChainOf Free w free
records_free v w free setup r h = chain_stays Free v w (ap (λ (k : Setup). k.records) setup) (mine_stays Free v w r.mine) free h

pub records_rest : (v w : View) → LeavesRecords v w → LeavesRest v w
records_rest v w r = record {
  rest = λ i. ap (λ (l : List (Option Share)). in_rest (get_or l (i - 1) None)) r.mine;
  moves = ap (λ (m : Moves). record m { freed = v.own.moves.freed }) r.moves;
  answered = r.answered;
  locks = r.locks;
  front = r.front;
}

pub records_left : (v w : View) → LeavesRecords v w → IsLimboLeft v.own → IsLimboLeft w.own
records_left v w r left = let a = ap (count_by (is_as is_limbo)) r.mine in let b = ap (λ (m : Moves). m.freed) r.moves in let c = ap (λ (m : Moves). m.retired) r.moves in omega arith

-- none left limbo
pub records_frees : (v w : View) (free : Chain) (f : Freed) → LeavesRecords v w → f.freed ≡ 0 → f.spent ≡ 0 → FreesInto v free f w free
records_frees v w free f r freed spent = record {
  idle = let a = same_idle v.own w.own r.mine in omega arith;
  count = omega arith;
  freed = let a = ap (λ (m : Moves). m.freed) r.moves in omega arith;
  spent = let a = ap (count_by (is_as is_spent)) r.mine in omega arith;
  limbo = records_left v w r;
}

-- nor did any later
pub frees_then : (v u w : View) (before after : Chain) (f : Freed) → FreesInto v before f u after → LeavesRecords u w → FreesInto v before f w after
frees_then v u w before after f h r = record {
  idle = let a = same_idle u.own w.own r.mine in let b = h.idle in omega arith;
  count = h.count;
  freed = let a = ap (λ (m : Moves). m.freed) r.moves in let b = h.freed in omega arith;
  spent = let a = ap (count_by (is_as is_spent)) r.mine in let b = h.spent in omega arith;
  limbo = λ l. records_left u w r (h.limbo l);
}

pub records_then : (v u w : View) → LeavesRecords v u → LeavesRecords u w → LeavesRecords v w
records_then v u w a b = record { mine = b.mine ∙ a.mine; moves = b.moves ∙ a.moves; answered = b.answered ∙ a.answered; locks = b.locks ∙ a.locks; front = b.front ∙ a.front }

-- What the steps say depends on how many are idle, on the readings and on what is known of each record
shifts_then : (b c d : Book) (e : ℕ) (made : List Step) (f : Freed) → d.mine ≡ c.mine → d.guard.readings ≡ c.guard.readings → ShiftsIfNew b e made f c → ShiftsIfNew b e made f d
shifts_then b c d e made f mine readings (same is h) = same is record { steps = h.steps; readings = readings ∙ h.readings; mine = mine ∙ h.mine; freed = h.freed }
shifts_then b c d e made f mine readings (anew is h) = anew is record {
  steps = subst (λ (n : ℕ). All (IsRowStep n) made) (sym (same_idle c d mine)) h.steps;
  readings = readings ∙ h.readings;
  mine = ap (map unchained) mine ∙ h.mine;
  freed = h.freed;
  spent = h.spent;
}

looks_then : (setup : Setup) (c d : Book) (e place after : ℕ) (looked : List Step) → d.mine ≡ c.mine → Looks setup c e place looked after → Looks setup d e place looked after
looks_then setup c d e place _ _ mine (no_look all) = no_look all
looks_then setup c d e place _ _ mine (one_look lt n) = subst (λ (l : List Step). Looks setup d e place l (cond (is_passed e n) (place + 1) place)) (ap (λ (i : ℕ). record (announcement_load c place n) { idle = i } ∷ []) (same_idle c d mine)) (one_look lt n)

tries_then : (setup : Setup) (c d : Book) (e place after : ℕ) (tried : List Step) → d.mine ≡ c.mine → Tries setup c e place after tried → Tries setup d e place after tried
tries_then setup c d e place after _ mine (no_try never) = no_try never
tries_then setup c d e place after _ mine (one_try all n) = subst (Tries setup d e place after) (ap (λ (i : ℕ). record (epoch_exchange c e n) { idle = i } ∷ []) (same_idle c d mine)) (one_try all n)

-- where the scan goes on from
from_there : (g : Guard) (e : ℕ) → (debra_at g e).scan_place ≡ place_from g e
from_there g e = by (eqb e (reading g 0))
  where
    by : (b : Bool) → (cond b g (reads_anew g e)).scan_place ≡ cond b g.scan_place 0
    by true = refl
    by false = refl

-- v as it entered, u once it had read the epoch, w after its scan, and x once it had announced itself
module _ (setup : Setup) (v u w x : View) (e place after : ℕ) (f : Freed) (read : HasRead v e f u) (scanned : HasScanned setup u e place after w) (announced : HasAnnounced w e x) (at : u.own.guard.scan_place ≡ place)
    (known : LeavesRecords u w) (kept : LeavesRecords w x) (caller : x.own.caller ≡ w.own.caller) where
  mine : x.own.mine ≡ u.own.mine
  mine = kept.mine ∙ known.mine

  from : place ≡ place_from v.own.guard e
  from = sym at ∙ ap (λ (g : Guard). g.scan_place) read.guard ∙ from_there v.own.guard e

  to : x.own.guard.scan_place ≡ after
  to = announced.place ∙ ap (λ (g : Guard). g.scan_place) scanned.place

  pub enters : Enters setup v.own f x.own
  enters = record {
    epoch = e;
    moved = read.made;
    shifts = shifts_then v.own u.own x.own e read.made f mine (announced.readings ∙ ap (λ (g : Guard). g.readings) scanned.place) read.shifts;
    looked = scanned.looked;
    looks = subst (λ (p : ℕ × ℕ). Looks setup x.own e p.0 scanned.looked p.1) (λ k. (from k, sym to k)) (looks_then setup u.own x.own e place after scanned.looked mine scanned.looks);
    tried = scanned.tried;
    tries = subst (λ (p : ℕ × ℕ). Tries setup x.own e p.0 p.1 scanned.tried) (λ k. (from k, sym to k)) (tries_then setup u.own x.own e place after scanned.tried mine scanned.tries);
    announced = announced.announced;
    steps = announced.steps ∙ ap (λ (l : List Step). l ++ word_store w.own 0 (2 * e + 1) announced.announced ∷ []) (scanned.steps ∙ ap (λ (l : List Step). l ++ scanned.looked ++ scanned.tried) read.steps)
        ∙ ap (λ (z : ℕ × ℕ). v.own.steps ++ (epoch_load v.own e ∷ read.made) ++ scanned.looked ++ scanned.tried ++ record (word_store w.own 0 (2 * e + 1) announced.announced) { word = Announced (4 * z.0 + 0); idle = z.1 } ∷ [])
        (λ k. (sym caller k, sym (same_idle w.own x.own kept.mine) k));
  }
