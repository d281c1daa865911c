-- With an allocator that counts in one word, a call of the hash table takes a spare record before it draws one, under any reclaimer: its calls only add steps.
use Rattle.std.proofs.Common.{◌≡◌, ℕ, ⊎_elim, List, [], ◌∷◌, length, Bool, true, false, refl, sym, ap, ◌∙◌, subst, append_assoc}
use Rattle.atomic_table.proofs.Lists.{at_last}
use Rattle.row_words.specs.Refs.{RefParts}
use Rattle.row_words.specs.declared.links.Freed.{Freed}
use Rattle.record_memory.specs.declared.books.Book.{Book}
use Rattle.record_memory.specs.declared.books.Setup.{Setup}
use Rattle.record_memory.specs.declared.books.View.{View}
use Rattle.record_memory.specs.declared.steps.Step.{Step}
use Rattle.record_memory.specs.declared.steps.Word.TheVariants.{Drawn}
use Rattle.record_memory.specs.Memory.{address}
use Rattle.record_rule.specs.Facts.{At}
use Rattle.record_table.specs.declared.nodes.Node.{Node}
use Rattle.record_rule.specs.Kinds.{control_load, draw_step, drew, loaded_control}
use Rattle.reclaim_api.specs.Frames.{AddsSteps}
use Rattle.reclaim_api.specs.declared.holding.Holding.{Holding}
use Rattle.alloc_bump.specs.Bumps.{Refuses}
use Rattle.manager.specs.Manners.{AreOf}
use Rattle.set_api.specs.Drawing.{TakesSpareFirst}
use Rattle.hash_runs.specs.HashRuns.{manner_of}
use Rattle.michael_hash.specs.Pieces.{MakesPiece}
use Rattle.record_pieces.specs.Manners.{Manner}
use Rattle.record_pieces.proofs.Stock.{OnlyAdds}
use Rattle.michael_hash.proofs.Sparing.{SawAllDrawn, takes_spare_first}

-- what views say of their books
of_books : (k : Setup) (b c : Book) (v w : View) → AreOf k b c v w → AddsSteps v.own w.own → AddsSteps b c
of_books k b c v w of adds = subst (λ (x : Book). AddsSteps x c) of.before (subst (AddsSteps v.own) of.after adds)

-- the look at the word of records drawn, and the step that adds to it
abbrev looked_at : View → ℕ → View
looked_at v n = loaded_control v (address v.setup.callers Drawn) n

look_adds : (v w : View) (n : ℕ) → w ≡ looked_at v n → AddsSteps v.own w.own
look_adds v w n is = (control_load v (address v.setup.callers Drawn) n ∷ [], ap (λ (x : View). x.own.steps) is)

drew_adds : (v w : View) (seen found : ℕ) → w ≡ drew (looked_at v seen) found → AddsSteps v.own w.own
drew_adds v w seen found is =
    let one = control_load v (address v.setup.callers Drawn) seen in
    let two = draw_step (looked_at v seen) found in
    (one ∷ two ∷ [], ap (λ (x : View). x.own.steps) is ∙ append_assoc v.own.steps (one ∷ []) (two ∷ []))

refused_adds : (v w : View) (n : ℕ) → Refuses v n w → AddsSteps v.own w.own
refused_adds v w n h = ⊎_elim (λ looks. look_adds v w n looks.steps) (λ misses. drew_adds v w misses.seen n misses.steps) h

-- a draw that found no record left
saw_none : (v w : View) (n : ℕ) → Refuses v n w → SawAllDrawn v.setup.records w.own
saw_none v w n h = ⊎_elim
    (λ looks.
    let t = control_load v (address v.setup.callers Drawn) n in
    (length v.own.steps, t, subst (λ (l : List Step). At l (length v.own.steps) t) (sym (ap (λ (x : View). x.own.steps) looks.steps)) (at_last v.own.steps t (length v.own.steps) refl), refl, looks.none))
    (λ misses.
    let u = looked_at v misses.seen in
    let t = draw_step u n in
    (length u.own.steps, t, subst (λ (l : List Step). At l (length u.own.steps) t) (sym (ap (λ (x : View). x.own.steps) misses.steps)) (at_last u.own.steps t (length u.own.steps) refl), refl, misses.none))
    h

module _ (enters : Setup → Book → Freed → Book → Type 0) (leaves : Setup → Book → Book → Type 0) (bears : Setup → Book → ℕ → Book → Type 0)
    (reaches : Setup → ℕ → Node → ℕ → Book → Holding → Book → Type 0) (puts_away : Setup → Book → RefParts → Freed → Book → Type 0)
    (enters_adds : (k : Setup) (b : Book) (f : Freed) (c : Book) → enters k b f c → AddsSteps b c)
    (leaves_adds : (k : Setup) (b c : Book) → leaves k b c → AddsSteps b c)
    (bears_adds : (k : Setup) (b : Book) (n : ℕ) (c : Book) → bears k b n c → AddsSteps b c)
    (reaches_adds : (k : Setup) (place : ℕ) (from : Node) (field : ℕ) (b : Book) (h : Holding) (c : Book) → reaches k place from field b h c → AddsSteps b c)
    (puts_away_adds : (k : Setup) (b : Book) (r : RefParts) (f : Freed) (c : Book) → puts_away k b r f c → AddsSteps b c) where
  abbrev own_manner : Manner
  own_manner = manner_of enters leaves bears reaches puts_away

  takes_add : (k : Setup) (b c : Book) (came : Bool) → own_manner.takes k b came c → AddsSteps b c
  takes_add k b c true h = of_books k b c h.0 h.1 h.2 (h.3.1.steps, h.3.1.made.appended)
  takes_add k b c false h = of_books k b c h.0 h.1 h.2 (h.3.steps, h.3.made.appended)

  gives_add : (k : Setup) (b c : Book) (put : Bool) → own_manner.gives k b put c → AddsSteps b c
  gives_add k b c true h = of_books k b c h.0 h.1 h.2 (h.3.2.steps, h.3.2.made.appended)
  gives_add k b c false h = of_books k b c h.0 h.1 h.2 (h.3.2.steps, h.3.2.made.appended)

  only_adds : (k : Setup) → OnlyAdds own_manner k
  only_adds k = record {
    enters = λ b c f h. enters_adds k b f c h;
    leaves = λ b c h. leaves_adds k b c h;
    bears = λ b c birth h. bears_adds k b birth c h;
    reaches = λ b c place at f holding h. reaches_adds k place at f b holding c h;
    puts_away = λ b c r f h. puts_away_adds k b r f c h;
    draws = λ b c r h. of_books k b c h.0 h.1 h.2 (drew_adds h.0 h.1 h.3.seen h.3.found h.3.steps);
    refuses = λ b c n h. of_books k b c h.0 h.1 h.2 (refused_adds h.0 h.1 n h.3);
    takes = λ b c came h. takes_add k b c came h;
    gives = λ b c put h. gives_add k b c put h;
  }

  pub spare_first : (k : Setup) → TakesSpareFirst (MakesPiece own_manner k) k.records
  spare_first k = takes_spare_first own_manner k (only_adds k)
      (λ b c n h. subst (λ (x : Book). SawAllDrawn k.records x) h.2.after (subst (λ (s : Setup). SawAllDrawn s.records h.1.own) h.2.setup (saw_none h.0 h.1 n h.3)))
