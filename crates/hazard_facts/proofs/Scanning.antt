-- A scan loads the words of all callers, one after another. What a word names when it is loaded is what its caller then holds at its place.
use Rattle.std.proofs.Common.{◌≡◌, ℕ, ◌/◌, ◌%◌, [], ◌∷◌, ◌++◌, length, cond, eqb, Bool, true, false, Some, sym, refl, ap, ◌∙◌, subst, arith, ⊎_elim, inl}
use Rattle.std.proofs.lemmas.Bool.{eqb-true}
use Rattle.atomic_table.proofs.Lists.{at_set}
use Rattle.record_memory.specs.declared.books.Setup.{Setup}
use Rattle.record_memory.specs.declared.books.Guard.{Guard}
use Rattle.record_memory.specs.declared.steps.Word.{Word}
use Rattle.record_memory.specs.declared.steps.Word.TheVariants.{Announced}
use Rattle.row_words.specs.Refs.{RefParts}
use Rattle.row_words.specs.Packing.{packed_ref}
use Rattle.record_rule.specs.Inputs.{SchemeInput}
use Rattle.record_rule.specs.Facts.{At, Moment}
use Rattle.record_rule.specs.Laws.{moment, with_guard, ValueIs, HasLoaded}
use Rattle.record_rule.proofs.Lists.{get_at, one_at}
use Rattle.record_rule.proofs.Seats.{at_end}
use Rattle.guard_facts.specs.Announcing.{word_of, GuardsFit}
use Rattle.guard_facts.proofs.Replaced.{holds_on}
use Rattle.hazard_facts.specs.Pointers.{scan_word, hazard_loaded, HazardFits}
use Rattle.hazard_facts.proofs.Frames.{guard_over, same_guard}

-- a scan with one word more
abbrev pub with_loaded : Guard → ℕ → Guard
with_loaded g n = record g { loaded = g.loaded ++ n ∷ [] }

-- the word at a place names what its caller holds there
holder_named : (setup : Setup) (x : SchemeInput) (k n i : ℕ) (o : Guard) (t : RefParts) → GuardsFit HazardFits setup x → ValueIs x (Announced k) n → k ≡ scan_word i → At x.guards (i / 3) o → At o.holds (i % 3) (Some t) → n ≡ packed_ref (Some t)
holder_named setup x k n i o t h is spot there hold = let c : is.0 ≡ i / 3 = (let z = is.3 in let y = is.4 in omega arith) in let q : is.1 ≡ i % 3 = (let z = is.3 in let y = is.4 in omega arith) in
    let same : is.2 ≡ o = one_at x.guards (i / 3) is.2 o (subst (λ (z : ℕ). At x.guards z is.2) c is.5) there in
    sym (get_at is.2.announced is.1 n 0 is.6) ∙ ap (λ (z : Guard). word_of z is.1) same ∙ ap (word_of o) q ∙ ((h (i / 3) o there).names (i % 3) t hold).1

-- the next word is loaded
loads_next : (setup : Setup) (x : SchemeInput) (d k n : ℕ) (g : Guard) → GuardsFit HazardFits setup x → At x.guards d g → ValueIs x (Announced k) n → k ≡ scan_word (length g.loaded) → GuardsFit HazardFits setup (with_guard x d (with_loaded g n))
loads_next setup x d k n g h at is spot = guard_over setup x d g (with_loaded g n) at (λ p t z. inl z) h (λ f. record {
  names = f.names;
  scan = λ i v o t l there hold generation b m stamp r cell. ⊎_elim
      (λ y. f.scan i v o t y there hold generation b m stamp r cell)
      (λ y. sym y.1 ∙ (let turn : k ≡ scan_word i = spot ∙ ap scan_word (sym y.0) in ⊎_elim
      (λ p. holder_named setup x k n i g t h is turn (subst (λ (z : ℕ). At x.guards z g) (sym p.0) at) (subst (λ (z : Guard). At z.holds (i % 3) (Some t)) (sym p.1) hold))
      (λ p. holder_named setup x k n i o t h is turn p.1 hold) (at_set x.guards d (i / 3) (with_loaded g n) o there)))
      (at_end g.loaded n v i l);
})

loads_at : (setup : Setup) (x : SchemeInput) (d k n : ℕ) (g : Guard) → GuardsFit HazardFits setup x → At x.guards d g → ValueIs x (Announced k) n → (a : Bool) → eqb k (scan_word (length g.loaded)) ≡ a → GuardsFit HazardFits setup (with_guard x d (cond a (with_loaded g n) g))
loads_at setup x d k n g h at is true e = loads_next setup x d k n g h at is (eqb-true k (scan_word (length g.loaded)) e)
loads_at setup x d k n g h at is false e = same_guard setup x d g at h

pub loads_so : (setup : Setup) (x : SchemeInput) (d updates n : ℕ) (g : Guard) (word : Word) → GuardsFit HazardFits setup x → At x.guards d g → ValueIs x word n → GuardsFit HazardFits setup (with_guard x d (hazard_loaded setup (moment x updates) d g word n))
loads_so setup x d updates n g (Announced k) h at is = loads_at setup x d k n g h at is (eqb k (scan_word (length g.loaded))) refl
loads_so setup x d updates n g word h at is = same_guard setup x d g at h

-- a load of a control word gives no hold and ends none
loaded_at : (x : SchemeInput) (n : ℕ) (g : Guard) (a : Bool) → HasLoaded x g (cond a (with_loaded g n) g)
loaded_at x n g true = holds_on x g (with_loaded g n) refl refl refl record { taken_out = refl; updates = refl; step = refl }
loaded_at x n g false = holds_on x g g refl refl refl record { taken_out = refl; updates = refl; step = refl }

pub has_loaded : (setup : Setup) (x : SchemeInput) (m : Moment) (d n : ℕ) (g : Guard) (word : Word) → HasLoaded x g (hazard_loaded setup m d g word n)
has_loaded setup x m d n g (Announced k) = loaded_at x n g (eqb k (scan_word (length g.loaded)))
has_loaded setup x m d n g word = loaded_at x n g false
