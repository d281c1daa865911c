-- The words of a scan are loaded one after another: a load before the last one leaves all records, and with the last one those that the words let go leave limbo.
use Rattle.std.proofs.Common.{◌≡◌, ℕ, ◌+◌, ◌*◌, ◌<◌, List, [], ◌∷◌, ◌++◌, length, length-append, append-nil, append_assoc, Bool, true, false, cond, eqb, None, sym, refl, ap, ◌∙◌, subst, arith}
use Rattle.std.proofs.lemmas.Bool.{eq-eqb, ne_eqb}
use Rattle.record_memory.specs.declared.steps.Word.{Word}
use Rattle.record_memory.specs.declared.steps.Word.TheVariants.{Announced}
use Rattle.record_memory.specs.declared.steps.StepKind.TheVariants.{Load}
use Rattle.record_memory.specs.declared.steps.Step.{Step}
use Rattle.record_memory.specs.declared.books.Guard.{Guard}
use Rattle.record_memory.specs.declared.books.Setup.{Setup}
use Rattle.record_memory.specs.declared.books.View.{View}
use Rattle.record_memory.specs.Memory.{word_at}
use Rattle.record_rule.specs.Facts.{Moment, LimboRecord, CoverFacts}
use Rattle.record_rule.specs.Kinds.{idle, control_load}
use Rattle.record_rule.specs.Links.{with_step}
use Rattle.record_rule.specs.Freeing.{count_freed, guard_loaded, LoadedControl}
use Rattle.reclaim_api.specs.Bags.{LeftLimbo}
use Rattle.reclaim_api.specs.Scanning.{word_loads, with_words, LoadsSome, LoadsAll}
use Rattle.reclaim_api.proofs.Bagged.{all_stay, bag_none}
use Rattle.reclaim_api.proofs.Leaving.{left_limbo}
use Rattle.reclaim_api.proofs.Words.{announced_at}

-- The reclaimer scans so many words in this order, and then frees what they let go
pub record ScansBy (c : CoverFacts) (order : ℕ → ℕ) (frees : List ℕ → LimboRecord → Bool) (setup : Setup) (many : ℕ) : Type 0 where
  pub loads : (m : Moment) (d : ℕ) (g : Guard) (n : ℕ) → c.loaded setup m d g (Announced (order (length g.loaded))) n ≡ record g { loaded = g.loaded ++ n ∷ [] }
  pub frees_then : (g : Guard) (x : LimboRecord) → c.may_free setup g x ≡ cond (eqb (length g.loaded) many) (frees g.loaded x) false
  pub ends : (g : Guard) → c.cleared setup g ≡ cond (eqb (length g.loaded) many) (record g { loaded = [] }) g

module _ (order : ℕ → ℕ) where
  -- one load more
  loads_more : (m i j n : ℕ) (words : List ℕ) → j ≡ i + length words → word_loads order m i words ++ record { kind = Load; word = Announced (order j); held = None; found = n; left = n; idle = m } ∷ [] ≡ word_loads order m i (words ++ n ∷ [])
  loads_more m i j n [] at = let same : j ≡ i = omega arith in λ k. record { kind = Load; word = Announced (order (same k)); held = None; found = n; left = n; idle = m } ∷ []
  loads_more m i j n (w ∷ ws) at = ap (λ (l : List Step). record { kind = Load; word = Announced (order i); held = None; found = w; left = w; idle = m } ∷ l) (loads_more m (i + 1) j n ws (omega arith))

  -- before the first load
  pub loads_none : (v : View) → v.own.guard.loaded ≡ [] → LoadsSome order v [] v
  loads_none v calm = record { drawing = v.own.drawing; view = λ k. record v { own = record v.own { steps = sym (append-nil v.own.steps) k; guard = record v.own.guard { loaded = calm k } } } }

  module _ (c : CoverFacts) (frees : List ℕ → LimboRecord → Bool) (v : View) (many : ℕ) (scan : ScansBy c order frees v.setup many) (words : List ℕ) (x : View) (some : LoadsSome order v words x) (n : ℕ) (w : View) (low : order (length words) < 4 * v.setup.callers) where
    abbrev then : View
    then = with_words order v words some.drawing

    abbrev place : ℕ
    place = 20 + order (length words)

    abbrev more : List ℕ
    more = words ++ n ∷ []

    abbrev added : Guard
    added = record v.own.guard { loaded = more }

    -- word `j` of the order is loaded next
    module _ (j : ℕ) (at : j ≡ length words) (loads : LoadedControl c x (20 + order j) n w) where
      told : LoadedControl c then place n w
      told = subst (λ (y : View × ℕ). LoadedControl c y.0 (20 + order y.1) n w) (λ k. (some.view k, at k)) loads

      abbrev loaded : Guard
      loaded = guard_loaded c then place n told.moment

      word_is : word_at v.setup.callers place ≡ Announced (order (length words))
      word_is = announced_at v.setup.callers place (order (length words)) refl low

      guard_is : loaded ≡ added
      guard_is = ap (λ (x : Word). c.loaded v.setup told.moment v.own.caller then.own.guard x n) word_is ∙ scan.loads told.moment v.own.caller then.own.guard n

      step_is : control_load then place n ≡ record { kind = Load; word = Announced (order (length words)); held = None; found = n; left = n; idle = idle v.own }
      unfolding idle
      step_is = λ k. record { kind = Load; word = word_is k; held = None; found = n; left = n; idle = idle v.own }

      steps_are : (v.own.steps ++ word_loads order (idle v.own) 0 words) ++ control_load then place n ∷ [] ≡ v.own.steps ++ word_loads order (idle v.own) 0 more
      steps_are = ap (λ (t : Step). (v.own.steps ++ word_loads order (idle v.own) 0 words) ++ t ∷ []) step_is ∙ append_assoc v.own.steps (word_loads order (idle v.own) 0 words) _ ∙ ap (λ (l : List Step). v.own.steps ++ l) (loads_more (idle v.own) 0 (length words) n words (omega arith))

      long : length more ≡ length words + 1
      long = length-append words (n ∷ [])

      -- what is freed then, by whether this load is the last
      frees_by : (b : Bool) → eqb (length more) many ≡ b → (r : LimboRecord) → c.may_free v.setup loaded r ≡ cond b (frees more r) false
      frees_by b is r = ap (λ (g : Guard). c.may_free v.setup g r) guard_is ∙ scan.frees_then added r ∙ ap (λ (z : Bool). cond z (frees more r) false) is

      guard_by : (b : Bool) → eqb (length more) many ≡ b → c.cleared v.setup loaded ≡ cond b (record added { loaded = [] }) added
      guard_by b is = ap (c.cleared v.setup) guard_is ∙ scan.ends added ∙ ap (λ (z : Bool). cond z (record added { loaded = [] }) added) is

      -- another one follows
      pub loads_next : length words + 1 < many → LoadsSome order v more w
      loads_next before = record {
        drawing = (with_step then.own v.setup.records (control_load then place n)).drawing;
        view = told.view ∙ (λ k. record v {
          own = record v.own {
            steps = steps_are k;
            drawing = (with_step then.own v.setup.records (control_load then place n)).drawing;
            mine = all_stay (c.may_free v.setup loaded) 0 v.own.mine none k;
            moves = record v.own.moves { freed = freed k };
            guard = guard_by false goes_on k;
          };
        });
      }
        where
          goes_on : eqb (length more) many ≡ false
          goes_on = ne_eqb (length more) many (λ e. let l = long in omega arith)

          none : count_freed (c.may_free v.setup loaded) 0 v.own.mine ≡ 0
          none = bag_none (c.may_free v.setup loaded) v.own (frees_by false goes_on)

          freed : v.own.moves.freed + count_freed (c.may_free v.setup loaded) 0 v.own.mine ≡ v.own.moves.freed
          freed = let e = none in omega arith

      -- this one is the last
      pub loads_last : length words + 1 ≡ many → v.own.guard.loaded ≡ [] → LoadsAll order frees v more w
      loads_last end calm = record {
        steps = ap (λ (y : View). y.own.steps) told.view ∙ steps_are;
        left = subst (λ (may : LimboRecord → Bool). LeftLimbo may v w) (λ k r. frees_by true scanned r k) (let l = left_limbo c then place n w told in record { setup = l.setup; mine = l.mine; moves = l.moves; answered = l.answered; locks = l.locks; front = l.front });
        guard = ap (λ (y : View). y.own.guard) told.view ∙ guard_by true scanned ∙ (λ k. record v.own.guard { loaded = sym calm k });
        notes = ap (λ (y : View). y.own.notes) told.view;
        seen = ap (λ (y : View). y.seen_updates) told.view;
      }
        where
          scanned : eqb (length more) many ≡ true
          scanned = eq-eqb (length more) many (long ∙ end)
