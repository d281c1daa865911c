-- How often each record was retired is what the records show, after one more step.
use Rattle.std.proofs.Common.{◌≡◌, ◌≢◌, ℕ, zero, suc, ◌+◌, ◌-◌, ◌<◌, ◌≤◌, List, [], ◌∷◌, ◌++◌, set, ◌&&◌, Bool, true, false, cond, eqb, ltb, sym, refl, ap, ◌∙◌, subst, arith}
use Rattle.std.specs.List.{count_by}
use Rattle.std.proofs.lemmas.Bool.{ne_eqb, true≢false}
use Rattle.std.proofs.lemmas.List.Sums.{sum_by-append, sum_by-cons}
use native.Mathlib.Decide.{ℕ_discrete}
use mathlib.Core.Logic.{dite}
use mathlib.Core.Option.{some}
use lib.ListN.{get_elem?}
use Rattle.atomic_table.proofs.Lists.{set_here, set_else}
use Rattle.record_memory.specs.declared.steps.Step.{Step}
use Rattle.record_memory.specs.declared.steps.StepKind.{StepKind}
use Rattle.record_memory.specs.declared.steps.StepKind.TheVariants.{Load, Store, Swap, Add, Exchange}
use Rattle.record_memory.specs.declared.steps.Word.{Word}
use Rattle.record_memory.specs.declared.steps.Word.TheVariants.{Field}
use Rattle.record_memory.specs.declared.books.Book.{Book}
use Rattle.row_words.specs.Packing.{own_in}
use Rattle.record_rule.specs.Records.{Record}
use Rattle.record_rule.specs.Facts.{At}
use Rattle.record_rule.specs.Counts.{retired_as}
use Rattle.record_rule.specs.Retirements.{is_store, is_stamp_of, names_none, is_retirement, retirements, retired_at, retired_there, IsStoredIn, WasStored, RetirementsFit}
use Rattle.record_rule.proofs.Lists.{below_at, one_at, each_set, each_more}
use Rattle.record_rule.proofs.Counts.{sum_set}
use Rattle.record_rule.proofs.Quiet.{IsCalm}

-- 1 for a step that retired the record
abbrev pub one_for : ℕ → ℕ → Step → ℕ
one_for i g t = cond (is_retirement i g t) 1 0

-- no record has an earlier generation than before
abbrev pub Grows : List Record → List Record → Type 0
Grows before after = (k : ℕ) (r : Record) → At before k r → (x : Record) × At after k x × (r.generation ≤ x.generation)

-- Each record then shows one more retirement where the step was one of it, and as many as before everywhere else
pub record LeavesRetirements (first : ℕ) (before after : List Record) (t : Step) : Type 0 where
  pub shows : (k g : ℕ) → retired_there first g (get_elem? after k) ≡ retired_there first g (get_elem? before k) + one_for (k + 1) g t
  pub grows : Grows before after
  pub stored : WasStored after t

-- the records show as many as before
pub record ShowsSame (first : ℕ) (before after : List Record) : Type 0 where
  pub shows : (k g : ℕ) → retired_there first g (get_elem? after k) ≡ retired_there first g (get_elem? before k)
  pub grows : Grows before after

-- the step retired no record
abbrev pub RetiresNone : Step → Type 0
RetiresNone t = (i g : ℕ) → is_retirement i g t ≡ false

-- one more step of a caller counts where it retired the record
one_more_step : (i g : ℕ) (steps : List Step) (t : Step) → count_by (is_retirement i g) (steps ++ t ∷ []) ≡ count_by (is_retirement i g) steps + one_for i g t
one_more_step i g steps t = let f : Step → ℕ = one_for i g in let a = sum_by-append f steps (t ∷ []) in let b = sum_by-cons f t [] in omega arith

-- what was stored in a record's words was still, when records have grown
stored_then : (before after : List Record) (t : Step) → Grows before after → WasStored before t → WasStored after t
stored_then before after t grows h i f kind word = let x = h i f kind word in let y = grows (i - 1) x.record_is x.there in let a = y.2 in let b = x.own in
    record { some_index = x.some_index; record_is = y.0; there = y.1; own = omega arith }

-- What holds of all retirements holds after one more step
pub retirements_more : (first : ℕ) (before after : List Record) (books : List Book) (c : ℕ) (b own : Book) (t : Step) → get_elem? books c ≡ some b → own.steps ≡ b.steps ++ t ∷ [] → LeavesRetirements first before after t
    → RetirementsFit first before books → RetirementsFit first after (set books c own)
retirements_more first before after books c b own t at steps leaves fits = record {
  some_first = fits.some_first;
  stored = let more : (d : ℕ) (e : Book) → At books d e → (n : ℕ) (x : Step) → At e.steps n x → WasStored after x = λ d e there n x is. stored_then before after x leaves.grows (fits.stored d e there n x is) in
      each_set (λ d e. (n : ℕ) (x : Step) → At e.steps n x → WasStored after x) books c own more (λ n x e. each_more (WasStored after) b.steps t leaves.stored (more c b at) n x (ap (λ l. get_elem? l n) (sym steps) ∙ e));
  each = λ k g. let e = sum_set (retirements (k + 1) g) books c b own at in let now = ap (count_by (is_retirement (k + 1) g)) steps in let more = one_more_step (k + 1) g b.steps t in
      let was = fits.each k g in let then = leaves.shows k g in omega arith;
}

-- a step that retired none, after which the records show as many
pub stored_none : (first : ℕ) (before after : List Record) (t : Step) → RetiresNone t → WasStored after t → ShowsSame first before after → LeavesRetirements first before after t
stored_none first before after t none stored same = record {
  shows = λ k g. let e = same.shows k g in let z : one_for (k + 1) g t ≡ 0 = ap (λ (b : Bool). cond {A = ℕ} b 1 0) (none (k + 1) g) in omega arith;
  grows = same.grows;
  stored = stored;
}

-- as each does that stores nothing
pub retires_none : (first : ℕ) (before after : List Record) (t : Step) → is_store t.kind ≡ false → ShowsSame first before after → LeavesRetirements first before after t
retires_none first before after t quiet = stored_none first before after t (λ i g. ap (λ (b : Bool). b && (is_stamp_of i t.word && (names_none t.held && (eqb (own_in t.found) g && eqb (own_in t.left) g)))) quiet)
    (λ i f kind word. absurd (true≢false (sym (ap is_store kind) ∙ quiet)))

-- the kinds of step that may leave their word as they found it
abbrev pub MayLeave : StepKind → Type 0
MayLeave Load = Unit {0}
MayLeave Store = ⊥
MayLeave Swap = Unit {0}
MayLeave Add = ⊥
MayLeave Exchange = Unit {0}

-- after such a step no caller has newly gone past the last record
pub leaving_calm : (k : StepKind) → MayLeave k → IsCalm k
leaving_calm Load h = tt
leaving_calm Swap h = tt
leaving_calm Exchange h = tt
leaving_calm k h = absurd h

-- and it stores nothing
pub leaving_quiet : (k : StepKind) → MayLeave k → is_store k ≡ false
leaving_quiet Load h = refl
leaving_quiet Swap h = refl
leaving_quiet Exchange h = refl
leaving_quiet k h = absurd h

-- all records stay
pub same_records : (first : ℕ) (records : List Record) → ShowsSame first records records
same_records first records = record { shows = λ k g. refl; grows = λ k r there. (r, there, omega arith) }

-- as a step does that leaves them so
pub keeps_retired : (first : ℕ) (records : List Record) (t : Step) → is_store t.kind ≡ false → LeavesRetirements first records records t
keeps_retired first records t quiet = retires_none first records records t quiet (same_records first records)

-- a record that counts as retired as often, at its generation, shows as many
pub kept_shows : (first : ℕ) (r r' : Record) → r'.generation ≡ r.generation → retired_as r'.place ≡ retired_as r.place → (g : ℕ) → retired_at first g r' ≡ retired_at first g r
kept_shows first r r' generation place g j = cond (ltb g first) 0 (cond (ltb g (generation j)) 1 (cond (eqb g (generation j)) (place j) 0))

module _ (first : ℕ) (records : List Record) (k : ℕ) (r r' : Record) (there : get_elem? records k ≡ some r) where
  -- a record that is changed, and shows more or not
  changed_at : (more : ℕ → ℕ → ℕ) → ((g : ℕ) → retired_at first g r' ≡ retired_at first g r + more k g) → ((j g : ℕ) → j ≢ k → more j g ≡ 0)
      → (j g : ℕ) → retired_there first g (get_elem? (set records k r') j) ≡ retired_there first g (get_elem? records j) + more j g
  changed_at more here else j g = dite (ℕ_discrete j k)
      (λ e. subst (λ (z : ℕ). retired_there first g (get_elem? (set records k r') z) ≡ retired_there first g (get_elem? records z) + more z g) (sym e)
      (ap (retired_there first g) (set_here records k r' (below_at records k r there)) ∙ here g ∙ ap (λ (z : ℕ). z + more k g) (sym (ap (retired_there first g) there))))
      (λ ne. let a = ap (retired_there first g) (set_else records k j r' ne) in let b = else j g ne in omega arith)

  -- the one record has no earlier generation
  one_grows : r.generation ≤ r'.generation → Grows records (set records k r')
  one_grows grown j x e = dite (ℕ_discrete j k)
      (λ is. let same : x ≡ r = one_at records k x r (subst (λ (z : ℕ). At records z x) is e) there in let le : x.generation ≡ r.generation = ap (λ (z : Record). z.generation) same in
      (r', subst (λ (z : ℕ). At (set records k r') z r') (sym is) (set_here records k r' (below_at records k r there)), omega arith))
      (λ ne. (x, set_else records k j r' ne ∙ e, omega arith))

  -- what a step stored in its words under its generation
  pub stored_here : (t : Step) (i : ℕ) → 0 < i → i - 1 ≡ k → ((j f : ℕ) → t.word ≡ Field j f → i ≡ j) → own_in t.left ≡ r'.generation → WasStored (set records k r') t
  stored_here t i pos is on own j f kind word = let same = on j f word in record {
    some_index = omega arith;
    record_is = r';
    there = subst (λ (z : ℕ). At (set records k r') z r') (sym is ∙ ap (λ (z : ℕ). z - 1) same) (set_here records k r' (below_at records k r there));
    own = omega arith;
  }

  -- one record moves, and shows as many
  pub shows_same : r.generation ≤ r'.generation → ((g : ℕ) → retired_at first g r' ≡ retired_at first g r) → ShowsSame first records (set records k r')
  shows_same grown same = record {
    shows = λ j g. let e = changed_at (λ _ _. 0) (λ g. let z = same g in omega arith) (λ _ _ _. refl) j g in omega arith;
    grows = one_grows grown;
  }

  -- as it does at its generation, where it counts as retired as often
  pub shows_moved : r'.generation ≡ r.generation → retired_as r'.place ≡ retired_as r.place → ShowsSame first records (set records k r')
  shows_moved generation place = shows_same (omega arith) (kept_shows first r r' generation place)

  -- the step retired it
  pub retires_one : (t : Step) → r.generation ≤ r'.generation → WasStored (set records k r') t → ((g : ℕ) → retired_at first g r' ≡ retired_at first g r + one_for (k + 1) g t) → ((j g : ℕ) → j ≢ k → is_retirement (j + 1) g t ≡ false) → LeavesRetirements first records (set records k r') t
  retires_one t grown stored here else = record {
    shows = changed_at (λ j g. one_for (j + 1) g t) here (λ j g ne. ap (λ (b : Bool). cond {A = ℕ} b 1 0) (else j g ne));
    grows = one_grows grown;
    stored = stored;
  }

-- none shows where each record shows none
pub none_there : (first g : ℕ) (records : List Record) (k : ℕ) → ((r : Record) → get_elem? records k ≡ some r → retired_at first g r ≡ 0) → retired_there first g (get_elem? records k) ≡ 0
none_there first g [] k each = refl
none_there first g (r ∷ rs) zero each = each r refl
none_there first g (r ∷ rs) (suc k) each = none_there first g rs k each

-- several moves, one after another
pub same_then : (first : ℕ) (a b c : List Record) (t : Step) → LeavesRetirements first a b t → ShowsSame first b c → LeavesRetirements first a c t
same_then first a b c t p q = record {
  shows = λ k g. q.shows k g ∙ p.shows k g;
  grows = λ k r e. let x = p.grows k r e in let y = q.grows k x.0 x.1 in (y.0, y.1, let a = x.2 in let b = y.2 in omega arith);
  stored = stored_then b c t q.grows p.stored;
}

module _ (first : ℕ) (before after : List Record) (t : Step) (i f : ℕ) (on : t.word ≡ Field i f) (link : 3 ≤ f) where
  -- a step on a link is on no stamp
  no_stamp : RetiresNone t
  no_stamp j g = ap (λ (w : Word). is_store t.kind && (is_stamp_of j w && rest)) on
      ∙ ap (λ (b : Bool). is_store t.kind && ((eqb i j && b) && rest)) (ne_eqb f 2 (λ e. omega arith)) ∙ by (is_store t.kind) (eqb i j)
    where
      rest : Bool
      rest = names_none t.held && (eqb (own_in t.found) g && eqb (own_in t.left) g)

      by : (a b : Bool) → a && ((b && false) && rest) ≡ false
      by false b = refl
      by true true = refl
      by true false = refl

  -- so it retires none, where the record is there and has no earlier generation than it left
  pub link_retires_none : 0 < i → (r : Record) → At after (i - 1) r → own_in t.left ≤ r.generation → ShowsSame first before after → LeavesRetirements first before after t
  link_retires_none pos r there own same = stored_none first before after t no_stamp
      (λ j h kind word. let is : i ≡ j = cc in subst (λ (z : ℕ). IsStoredIn after z t) is record { some_index = pos; record_is = r; there = there; own = own }) same
