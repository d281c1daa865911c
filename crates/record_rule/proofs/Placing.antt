-- A read is placed, with a load of the word that counts the records drawn.
use Rattle.std.proofs.Common.{◌≡◌, ℕ, ◌+◌, List, [], ◌∷◌, ◌++◌, length, length-append, take, drop, get_or, set, Bool, true, sym, refl, ap, ◌∙◌, subst, arith, ⊎_elim}
use Rattle.std.proofs.lemmas.List.{map-set, set-get_or, take-append-le, append_assoc, take-append-drop}
use Rattle.std.proofs.Math.ListN.{length-take}
use Rattle.atomic_table.proofs.Lists.{at_map}
use Rattle.set_model.specs.declared.calls.Call.{Call}
use Rattle.set_model.specs.declared.calls.Update.{Update}
use Rattle.record_memory.specs.declared.steps.Step.{Step}
use Rattle.record_memory.specs.declared.books.Setup.{Setup}
use Rattle.record_memory.specs.declared.books.View.{View}
use Rattle.record_memory.specs.declared.books.Answered.{Answered}
use Rattle.record_memory.specs.Memory.{Memory, memory}
use Rattle.record_rule.specs.Inputs.{guard_of, notes_of, roots_of, locks_of, answered_of, offer_of, Outline}
use Rattle.record_rule.specs.Facts.{ShapeFacts, CoverFacts}
use Rattle.record_rule.specs.Machines.{replies_for}
use Rattle.record_rule.specs.Histories.{after, HistoryFits}
use Rattle.record_rule.specs.World.{StartsWith, Parts, Rule}
use Rattle.record_rule.specs.Kinds.{Lawful, control_load}
use Rattle.record_rule.specs.Links.{read_at}
use Rattle.record_rule.specs.Placing.{placed_view, MayPlace}
use Rattle.record_rule.proofs.Lists.{map_set_same}
use Rattle.record_rule.proofs.Counts.{counts_calm}
use Rattle.record_rule.proofs.Quiet.{calm_after, places_calm}
use Rattle.record_rule.proofs.Rebuilt.{starts_itself, one_more, made_more, leaves_drawn, stepped}
use Rattle.record_rule.proofs.Retirements.{keeps_retired}
use Rattle.record_rule.proofs.Loads.{load_within, control_fits}
use Rattle.record_rule.proofs.Steps.{before, book, own_behind}
use Rattle.record_rule.proofs.HistoryMoves.{reads, free_by}
use Rattle.record_rule.proofs.Seats.{at_end}

module _ (shape : ShapeFacts) (cover : CoverFacts) (setup : Setup) where
  pub places_read : (id word p : ℕ) (v : View) (call : Call) (reply : Bool) → v.present ≡ true → MayPlace shape v p call reply → Lawful (Rule shape cover setup) id v word (λ n. n) (λ n w. w ≡ placed_view v word n p call reply)
  places_read id word p v call reply present may s u at = let n : ℕ = get_or s.words word 0 in let t : Step = control_load v word n in let w : View = placed_view v word n p call reply in let f = u.seated id v at in
      let mine = book shape cover setup s u id v at present in let c : ℕ = v.own.caller in let a : Answered = read_at p call reply in let m : Memory = memory setup.callers setup.records s.words in let was : Outline = before shape cover setup s u in
      let start : StartsWith u.updates (take p v.seen_updates) = (
        drop p v.seen_updates ++ f.seen_updates.0,
        f.seen_updates.1 ∙ ap (λ (l : List Update). l ++ f.seen_updates.0) (sym (take-append-drop p v.seen_updates))
            ∙ append_assoc (take p v.seen_updates) (drop p v.seen_updates) f.seen_updates.0,
      ) in
      let same : take p u.updates ≡ take p v.seen_updates = ap (take p) f.seen_updates.1 ∙ take-append-le p v.seen_updates f.seen_updates.0 may.within in
      let many : length (take p v.seen_updates) ≡ p = (let l = length-take p v.seen_updates in let z = may.within in omega (arith, l)) in
      let whole : length u.updates ≡ length v.seen_updates + length f.seen_updates.0 = ap length f.seen_updates.1 ∙ length-append v.seen_updates f.seen_updates.0 in
      let history : HistoryFits shape setup.set u.updates (set was.answered c (v.own.answered ++ a ∷ [])) was.offers = reads shape setup.set u.updates was.answered was.offers u.parts.history c v.own.answered (at_map answered_of u.books c v.own mine)
      (free_by shape setup.set u.updates was.answered was.offers v u.parts.history (at_map answered_of u.books c v.own mine) (at_map offer_of u.books c v.own mine) f.front (own_behind shape cover setup s u id v at present) v.own.offer refl may.unoffered) a refl
      record { within = (let z = may.within in omega arith); answered = subst (λ (l : List Update). replies_for setup.set l call reply) (sym same) (subst (λ (k : Setup). replies_for k.set (take p v.seen_updates) call reply) (f.setup_is present) may.replies) }
      (λ k b e. let z = own_behind shape cover setup s u id v at present k b e in let y = may.behind in omega arith) in (
        w,
        subst (λ (ws : List ℕ). Rule shape cover setup record { words = ws; homes = s.homes; views = set s.views id w }) (sym (set-get_or s.words word 0))
            (stepped shape cover setup s u id v w at present s.words u.wide u.records u.taken_out u.updates (starts_itself u.taken_out) (starts_itself u.updates) record {
              setup = refl;
              present = present;
              others = refl;
              caller = refl;
              front = start;
              seen_updates = f.seen_updates;
              seen_taken_out = f.seen_taken_out;
              longer = (let z = may.behind in omega arith);
              more_noted = (omega arith, omega arith);
              recent = λ h. h;
              behind = λ k b e. ⊎_elim (λ x. let z = own_behind shape cover setup s u id v at present k b x in let y = may.behind in omega arith) (λ x. let z = ap after x.1 in omega arith) (at_end v.own.answered a b k e);
              start_made = one_more v.own.guard.start_step v.own.steps t;
              made = made_more setup c v.own.steps t (control_fits shape cover setup s u id v at present word);
            }
            t refl (leaves_drawn refl refl (load_within setup s.words v word)) (keeps_retired setup.first u.records t refl)
            (places_calm setup u.records u.books m c v.own w.own mine refl refl (calm_after v.own.drawing v.setup.records t tt) u.places)
            (subst (Parts shape cover setup) (λ k. record {
              shapes = was.shapes;
              schemes = was.schemes;
              takings = was.takings;
              epoch = was.epoch;
              announced = was.announced;
              taken_out = was.taken_out;
              updates = was.updates;
              guards = sym (map_set_same guard_of u.books c v.own w.own mine refl) k;
              notes = sym (map_set_same notes_of u.books c v.own w.own mine refl) k;
              roots = sym (map_set_same roots_of u.books c v.own w.own mine refl) k;
              offers = sym (map_set_same offer_of u.books c v.own w.own mine refl) k;
              locks = sym (map_set_same locks_of u.books c v.own w.own mine refl) k;
              answered = sym (map-set answered_of u.books c w.own) k;
            }) (let parts : Parts shape cover setup (record was { answered = set was.answered c (v.own.answered ++ a ∷ []) }) = record {
              taken = u.parts.taken;
              held = u.parts.held;
              known = u.parts.known;
              locks = u.parts.locks;
              shape = u.parts.shape;
              told = u.parts.told;
              scheme = u.parts.scheme;
              words = u.parts.words;
              begun = u.parts.begun;
              history = history;
            } in parts)) (counts_calm setup.first u.records u.books c v.own w.own mine u.counts refl)),
        refl,
      )
