-- The epoch is exchanged where the reclaimer allows it.
use Rattle.std.proofs.Common.{◌≡◌, ℕ, List, length-set, get_or, set, cond, eqb, Bool, true, false, sym, refl, ap, ◌∙◌, subst, inr}
use Rattle.std.proofs.lemmas.Bool.{eqb-true}
use Rattle.atomic_table.proofs.Lists.{at_map}
use Rattle.record_memory.specs.declared.steps.Word.{Word}
use Rattle.record_memory.specs.declared.steps.Word.TheVariants.{Drawn, Epoch, Lock, Blank, Shelf, Announced, Cursor, Field}
use Rattle.record_memory.specs.declared.steps.StepKind.TheVariants.{Exchange}
use Rattle.record_memory.specs.declared.steps.Step.{Step}
use Rattle.record_memory.specs.declared.books.Setup.{Setup}
use Rattle.record_memory.specs.declared.books.View.{View}
use Rattle.record_memory.specs.declared.books.Book.{Book}
use Rattle.record_memory.specs.Memory.{Memory, memory, address, word_at, put}
use Rattle.record_memory.proofs.Stores.{stores, loads, address-word_at}
use Rattle.record_rule.specs.Inputs.{guard_of, notes_of, roots_of, locks_of, answered_of, offer_of, Outline, scheme_input}
use Rattle.record_rule.specs.Facts.{ShapeFacts, CoverFacts}
use Rattle.record_rule.specs.Laws.{CoverLaws}
use Rattle.record_rule.specs.World.{Places, Parts, Rule}
use Rattle.record_rule.specs.Kinds.{made_step, control_step, Lawful}
use Rattle.record_rule.specs.Links.{with_step}
use Rattle.record_rule.specs.ControlSteps.{MayExchangeControl}
use Rattle.record_rule.proofs.Lists.{map_set_same}
use Rattle.record_rule.proofs.Fields.{places_beside}
use Rattle.record_rule.proofs.Quiet.{places_calm, calm_after}
use Rattle.record_rule.proofs.Counts.{counts_calm}
use Rattle.record_rule.proofs.Rebuilt.{no_field, counters, elsewhere, rebuilt}
use Rattle.record_rule.proofs.Retirements.{keeps_retired}
use Rattle.record_rule.proofs.Steps.{before, book, kept_calm}
use Rattle.record_rule.proofs.Safe.{safe}

-- what an exchange of a control word tells, which found n
abbrev pub ToldControl : View → ℕ → ℕ → ℕ → ℕ → View → Type 0
ToldControl v word old new n w = w ≡ made_step v (control_step v Exchange word n (cond (eqb n old) new n))

module _ (shape : ShapeFacts) (cover : CoverFacts) (covering : CoverLaws cover) (setup : Setup) where
  -- A caller may exchange the epoch where its reclaimer allows it
  pub exchanges_epoch : (id old new : ℕ) (v : View) → v.present ≡ true → v.setup ≡ setup → cover.may_exchange setup v.own.guard old new → Lawful (Rule shape cover setup) id v 1 (λ n. cond (eqb n old) new n) (ToldControl v 1 old new)
  exchanges_epoch id old new v present same may s u at = let n : ℕ = get_or s.words 1 0 in (made_step v (control_step v Exchange 1 n (cond (eqb n old) new n)), by (eqb n old) refl, refl)
    where
      m : Memory
      m = memory setup.callers setup.records s.words

      by : (b : Bool) → eqb (get_or s.words 1 0) old ≡ b → Rule shape cover setup record { words = set s.words 1 (cond b new (get_or s.words 1 0)); homes = s.homes; views = set s.views id (made_step v (control_step v Exchange 1 (get_or s.words 1 0) (cond b new (get_or s.words 1 0)))) }
      by false e = let t : Step = control_step v Exchange 1 (get_or s.words 1 0) (get_or s.words 1 0) in kept_calm shape cover setup s u id v at present 1 t (no_field setup v.own.caller t refl (inr refl) (λ i f e. cc)) (λ e. let none : ⊥ = cc in absurd none) tt
      by true e = let n : ℕ = get_or s.words 1 0 in let t : Step = control_step v Exchange 1 n new in let own : Book = with_step v.own v.setup.records t in let c : ℕ = v.own.caller in let m0 : Memory = memory setup.callers setup.records s.words in
          let words' : List ℕ = set s.words 1 new in let m' : Memory = memory setup.callers setup.records words' in let was : Outline = before shape cover setup s u in let mine = book shape cover setup s u id v at present in
          let put_is : m' ≡ put m0 Epoch new = stores setup.callers setup.records s.words Epoch new u.wide tt in
          let found : m0.epoch ≡ old = sym (loads setup.callers setup.records s.words Epoch tt) ∙ eqb-true n old e in
          rebuilt shape cover setup s u id v at present words' (length-set s.words 1 new ∙ u.wide) u.records own t (no_field setup c t refl (inr refl) (λ i f e. cc)) refl refl refl refl refl (elsewhere t (ap counters put_is) refl (λ e. cc))
          (keeps_retired setup.first u.records t refl)
          (subst (Places setup u.records (set u.books c own)) (sym put_is) (places_beside setup u.records (set u.books c own) m0 new m0.announced (places_calm setup u.records u.books m0 c v.own own mine refl refl (calm_after v.own.drawing v.setup.records t tt) u.places)))
          (subst (Parts shape cover setup) (λ k. record {
            shapes = was.shapes;
            schemes = was.schemes;
            takings = was.takings;
            taken_out = was.taken_out;
            updates = was.updates;
            epoch = ap (λ (x : Memory). x.epoch) (sym put_is) k;
            announced = ap (λ (x : Memory). x.announced) (sym put_is) k;
            guards = sym (map_set_same guard_of u.books c v.own own mine refl) k;
            notes = sym (map_set_same notes_of u.books c v.own own mine refl) k;
            roots = sym (map_set_same roots_of u.books c v.own own mine refl) k;
            offers = sym (map_set_same offer_of u.books c v.own own mine refl) k;
            locks = sym (map_set_same locks_of u.books c v.own own mine refl) k;
            answered = sym (map_set_same answered_of u.books c v.own own mine refl) k;
          }) (let parts : Parts shape cover setup (record was { epoch = new }) = record {
            taken = u.parts.taken;
            held = u.parts.held;
            known = u.parts.known;
            locks = u.parts.locks;
            shape = u.parts.shape;
            told = u.parts.told;
            words = u.parts.words;
            begun = u.parts.begun;
            history = u.parts.history;
            scheme = covering.exchanges setup (scheme_input was) c old new v.own.guard (safe shape cover setup u.records u.books u.taken_out u.updates m0 u.places u.parts) u.parts.scheme (at_map guard_of u.books c v.own mine) may found;
          } in parts)) (counts_calm setup.first u.records u.books c v.own own mine u.counts refl)

  exchanges_at : (id word old new : ℕ) (v : View) (x : Word) → v.present ≡ true → v.setup ≡ setup → word ≡ address setup.callers x → MayExchangeControl cover v x old new → Lawful (Rule shape cover setup) id v word (λ n. cond (eqb n old) new n) (ToldControl v word old new)
  exchanges_at id word old new v Epoch present same is may = subst (λ (z : ℕ). Lawful (Rule shape cover setup) id v z (λ n. cond (eqb n old) new n) (ToldControl v z old new)) (sym is)
      (exchanges_epoch id old new v present same (subst (λ (z : Setup). cover.may_exchange z v.own.guard old new) same may))
  exchanges_at id word old new v Drawn present same is may = absurd may
  exchanges_at id word old new v Lock present same is may = absurd may
  exchanges_at id word old new v Blank present same is may = absurd may
  exchanges_at id word old new v (Shelf k) present same is may = absurd may
  exchanges_at id word old new v (Announced j) present same is may = absurd may
  exchanges_at id word old new v (Cursor d) present same is may = absurd may
  exchanges_at id word old new v (Field i f) present same is may = absurd may

  -- A pass may exchange a control word where its reclaimer allows it
  pub exchanges_control : (id word old new : ℕ) (v : View) → v.present ≡ true → v.setup ≡ setup → MayExchangeControl cover v (word_at v.setup.callers word) old new → Lawful (Rule shape cover setup) id v word (λ n. cond (eqb n old) new n) (ToldControl v word old new)
  exchanges_control id word old new v present same may = exchanges_at id word old new v (word_at v.setup.callers word) present same
      (sym (address-word_at v.setup.callers v.setup.records word) ∙ ap (λ (z : Setup). address z.callers (word_at v.setup.callers word)) same) may
