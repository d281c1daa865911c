use Rattle.std.proofs.Common.{◌+◌, get_or, None, ap, sym, refl, subst, ◌∙◌, List}
use Rattle.record_memory.specs.declared.books.View.{View}
use Rattle.record_memory.specs.declared.books.Setup.{Setup}
use Rattle.record_memory.specs.declared.steps.Step.{Step}
use Rattle.record_memory.specs.declared.books.Standing.TheVariants.{Own, Spare, Free}
use Rattle.record_table.specs.Handles.{view}
use Rattle.record_rule.specs.Kinds.{idle}
use Rattle.record_rule.specs.Makes.{Makes}
use Rattle.record_rule.proofs.Makes.{handed_makes, handed_idle}
use Rattle.record_rule.specs.HandingOut.{HasDrawn}
use Rattle.reclaim_api.proofs.Kept.{chain_stays}
use Rattle.record_pieces.proofs.Hands.{hand_left}
use Rattle.manager.proofs.Stay.{lists_stay, lists_of, inside_after, keeps_after, chains_born, answers_after}
use Rattle.manager.proofs.Handed.{handed_hand, still_drawn, handed_limbo, handed_moves, handed_births, handed_stay}
use Rattle.reclaim_api.specs.Frames.{in_away}
use Rattle.record_memory.specs.declared.books.Moves.{Moves}
use Rattle.manager.proofs.MoveCounts.{same_moves, counted_still}
use Rattle.manager.proofs.Stocks.{spares_kept}
use Rattle.reclaim_api.proofs.Keeping.{held_then}
use Rattle.manager.proofs.Owns.{owns_mine, owns_stay}
use Rattle.manager.proofs.KeepLocks.{makes_locks}
use Rattle.manager.proofs.records.hand_out.Goals as goal

pub hand_out-requires-clause-drawn : goal.hand_out-requires-clause-drawn
hand_out-requires-clause-drawn g c = still_drawn (view c.args.caller.now.pass) (view c.birth-birth.new.pass) c.args.r c.birth-birth.ensures.pass.setup c.birth-birth.ensures.rest.mine c.requires.drawn

-- the record is still to be handed out after the birth
drawn : (g : _) (c : goal.After-hand_out g) → HasDrawn (view c.birth-birth.new.pass) c.args.r
drawn g c = still_drawn (view c.args.caller.now.pass) (view c.birth-birth.new.pass) c.args.r c.birth-birth.ensures.pass.setup c.birth-birth.ensures.rest.mine c.requires.drawn

-- the steps of the eight stores
made : (g : _) (c : goal.After-hand_out g) → (steps : List Step) × Makes (view c.birth-birth.new.pass) (view c.hand_out.new.pass) steps
made g c = let v : View = view c.birth-birth.new.pass in let m = handed_makes v c.args.r c.birth-birth.result (drawn g c) in (m.0, subst (λ (w : View). Makes v w m.0) (sym c.hand_out.ensures.steps) m.1)

pub returns-clause-caller : goal.returns-clause-caller
returns-clause-caller g c = let a = c.args.caller.now in let b = c.birth-birth.ensures in let e = c.hand_out.ensures in let q = c.birth-birth.new.pass in let z = c.hand_out.new.pass in let v : View = view q in let w : View = view z in let r = c.args.r in
    let h = c.requires.caller in let mid = lists_stay (view a.pass) v a.free a.spare b.pass.setup b.rest (lists_of _ a.pass a.local a.free a.spare h.chains) in
    let d = drawn g c in let n = c.birth-birth.result in let m = made g c in let records = ap (λ (k : Setup). k.records) e.pass.setup in record {
      inside = inside_after q z e.pass m.0 m.1 b.inside;
      chains = chains_born q z e.pass m.0 m.1 _ c.birth-birth.new.local a.free a.spare g.met.R.Scheme.local_stays b.local (handed_births v w r n d e.steps) (handed_limbo v w r n d e.steps)
          (chain_stays Free v w records (handed_stay v w r n d e.steps Free tt) a.free mid.frees)
          (chain_stays Spare v w records (handed_stay v w r n d e.steps Spare tt) a.spare mid.spares)
          (ap (λ (x : View). idle x.own) e.steps ∙ handed_idle v r n d ∙ mid.all);
      counts = counted_still v w a.moved (handed_limbo v w r n d e.steps) (handed_moves v w r n d e.steps) (counted_still (view a.pass) v a.moved (λ i. ap (λ l. in_away (get_or l i None)) b.rest.mine) (same_moves _ _ b.rest.moves) h.counts);
    }

pub returns-clause-keeps : goal.returns-clause-keeps
returns-clause-keeps g c = let a = c.args.caller.now in let q = c.birth-birth.new.pass in let z = c.hand_out.new.pass in let m = made g c in held_then a.pass q z c.birth-birth.ensures.keeps (keeps_after q z c.hand_out.ensures.pass m.0 m.1)

pub returns-clause-answers : goal.returns-clause-answers
returns-clause-answers g c = let q = c.birth-birth.new.pass in let z = c.hand_out.new.pass in let m = made g c in let x = answers_after q z c.hand_out.ensures.pass m.0 m.1 in let b = c.birth-birth.ensures.rest in
    record { answered = x.answered ∙ b.answered; front = x.front ∙ b.front }

pub returns-clause-owns : goal.returns-clause-owns
returns-clause-owns g c r own = let q = c.birth-birth.new.pass in let z = c.hand_out.new.pass in let b = c.birth-birth.ensures in let e = c.hand_out.ensures in
    owns_stay (view q) (view z) (ap (λ (k : Setup). k.records) e.pass.setup) (handed_stay (view q) (view z) c.args.r c.birth-birth.result (drawn g c) e.steps Own tt) r (owns_mine _ (view q) (ap (λ (k : Setup). k.records) b.pass.setup) b.rest.mine r own)

pub returns-clause-stock : goal.returns-clause-stock
returns-clause-stock g c = let a = c.args.caller.now in let b = c.birth-birth.new in let z = c.hand_out.new.pass in let rest = c.birth-birth.ensures.rest.moves in (
  spares_kept _ a.pass z a.local b.local a.free a.spare a.free a.spare c.requires.caller.chains (returns-clause-caller g c).chains refl,
  record {
    births = handed_births (view b.pass) (view z) c.args.r c.birth-birth.result (drawn g c) c.hand_out.ensures.steps ∙ ap (λ (m : Moves). m.births + 1) rest;
    drawn = (handed_moves (view b.pass) (view z) c.args.r c.birth-birth.result (drawn g c) c.hand_out.ensures.steps).drawn ∙ ap (λ (m : Moves). m.drawn) rest;
    reused = (handed_moves (view b.pass) (view z) c.args.r c.birth-birth.result (drawn g c) c.hand_out.ensures.steps).reused ∙ ap (λ (m : Moves). m.reused) rest;
  },
)

pub returns-clause-retired : goal.returns-clause-retired
returns-clause-retired g c = (handed_moves (view c.birth-birth.new.pass) (view c.hand_out.new.pass) c.args.r c.birth-birth.result (drawn g c) c.hand_out.ensures.steps).retired ∙ ap (λ (m : Moves). m.retired) c.birth-birth.ensures.rest.moves

pub returns-clause-hand : goal.returns-clause-hand
returns-clause-hand g c = let b = c.birth-birth.new in handed_hand (view b.pass) (view c.hand_out.new.pass) c.args.r c.birth-birth.result (drawn g c) c.hand_out.ensures.steps ∙ hand_left (view c.args.caller.now.pass) (view b.pass) c.birth-birth.ensures.rest

pub returns-clause-locks : goal.returns-clause-locks
returns-clause-locks g c = makes_locks _ _ _ (made g c).1 ∙ c.birth-birth.ensures.rest.locks
