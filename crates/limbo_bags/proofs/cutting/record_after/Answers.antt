use Rattle.std.proofs.Common.{◌≡◌, suc, ◌<◌, ◌+◌, length, get_or, refl, sym, ◌∙◌, subst, arith}
use Rattle.std.proofs.lemmas.List.{get_or_default}
use Rattle.std.specs.Option.{IsSome}
use Rattle.limbo_bags.specs.Chains.{refs_of}
use Rattle.limbo_bags.proofs.Cuts.{found_next}
use Rattle.limbo_bags.proofs.cutting.record_after.Goals as goal

pub unwrap-r-requires-in-loop-step : goal.unwrap-r-requires-in-loop-step
unwrap-r-requires-in-loop-step g c =
    let list = c.requires.list in
    let at = c.loop-step.invariant in
    let found = found_next (g.W.ChainWords.row_of c.args.words.now) (g.W.ChainWords.row_of c.loop-step.words) _ _ _ c.loop-step._step c.loop-step.r list.leads (omega (arith, list.count, c.requires.steps)) at.place (at.rows c.loop-step.r) c.load_chain.ensures.next in
    subst IsSome (sym found) refl

pub loop-step-preserved : goal.loop-step-preserved
loop-step-preserved g c =
    let list = c.requires.list in
    let at = c.loop-step.invariant in
    let read = c.load_chain.ensures in
    let r = c.unwrap-r-in-loop-step.result in
    let refs = refs_of (g.W.ChainWords.row_of c.args.words.now) c.args.chain.now in
    let more : suc c.loop-step._step < length refs = omega (arith, list.count, c.requires.steps) in
    let found = found_next (g.W.ChainWords.row_of c.args.words.now) (g.W.ChainWords.row_of c.loop-step.words) _ _ refs c.loop-step._step c.loop-step.r list.leads more at.place (at.rows c.loop-step.r) read.next in
    let same_place : c.loop-step._step + 1 ≡ suc c.loop-step._step = omega arith in
    let here : get_or refs (suc c.loop-step._step) c.loop-step.r ≡ r = cc in
    record {
      place = rw same_place (get_or_default refs _ r c.loop-step.r more ∙ here);
      rows = λ q. read.rows q ∙ at.rows q;
      owned = λ q w. read.owned q (at.owned q w);
      same = g.met.W.ChainWords.same_then _ _ _ at.same read.same;
    }
