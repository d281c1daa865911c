use Rattle.std.proofs.Common.{◌≡◌, ◌+◌, List, ap, ◌∙◌, subst, true, false, arith}
use Rattle.record_memory.specs.declared.steps.Step.{Step}
use Rattle.record_memory.specs.declared.books.Moves.{Moves}
use Rattle.record_memory.specs.declared.books.View.{View}
use Rattle.record_memory.specs.declared.books.Standing.TheVariants.{Free, Spare}
use Rattle.row_words.specs.declared.links.Chain.{Chain}
use Rattle.record_rule.specs.Kinds.{idle}
use Rattle.record_rule.specs.Makes.{Makes}
use Rattle.manager.proofs.Stay.{makes_both}
use Rattle.record_table.specs.Handles.{setup_of, view}
use Rattle.record_pieces.specs.Manners.{Manner}
use Rattle.record_pieces.specs.Events.{from_free, from_pool}
use Rattle.manager.specs.Manners.{takes_by, manner}
use Rattle.manager.proofs.Empty.{none_in}
use Rattle.manager.proofs.Nexts.{took_some, took_none, drew_next}
use Rattle.manager.proofs.Stocks.{no_free, spares_kept}
use Rattle.manager.proofs.records.take_next.Goals as goal

pub returns-in-Some-clause-made : goal.returns-in-Some-clause-made
returns-in-Some-clause-made g c = (_, c.in-Some.ensures.made.1)

pub returns-in-Some-clause-did : goal.returns-in-Some-clause-did
returns-in-Some-clause-did g c = let e = c.in-Some.ensures in from_free e.made.0 _ e.again.0 e.made.1.appended e.again.1

pub returns-then-not-take_chain-clause-made : goal.returns-then-not-take_chain-clause-made
returns-then-not-take_chain-clause-made g c = let same = c.in_default.ensures.none.0 in let a = c.take_chain.ensures.made in let b = c.draw.ensures.made in
    subst (λ x. (steps : List Step) × Makes (view x.pass) (view c.draw.new.caller.pass) steps) same (makes_both _ _ _ a.0 b.0 a.1 b.1)

pub returns-then-not-take_chain-clause-did : goal.returns-then-not-take_chain-clause-did
returns-then-not-take_chain-clause-did g c = let k = setup_of c.args.table.now in let u : View = view c.take_chain.new.caller.pass in let w : View = view c.draw.new.caller.pass in
    let m : Manner = manner g.R.Scheme.enters g.R.Scheme.leaves g.R.Scheme.bears g.R.Scheme.reaches g.R.Scheme.puts_away g.A.Allocator.draws g.A.Allocator.refuses g.P.Pool.SHELVES g.P.Pool.busy in
    let same = c.in_default.ensures.none.0 in let a = c.args.caller.now in let h = c.requires.caller.chains in
    let found = c.take_chain.ensures.none c.if-not-take_chain.true in let none = subst (λ x. takes_by g.P.Pool.SHELVES g.P.Pool.busy k (view x.pass).own false u.own) same (took_none g.P.Pool.SHELVES g.P.Pool.busy k (view c.take_free.new.caller.pass) u c.take_free.ensures.of.setup found.0) in
    let empty : idle (view a.pass).own ≡ 0 = (let i = h.all in let x = none_in Free (view a.pass) a.free h.frees c.in_default.ensures.none.1 in let y = none_in Spare (view a.pass) a.spare h.spares c.requires.none in omega arith) in
    let drew = c.draw.new.caller in let spares : drew.spare.count ≡ a.spare.count = ap (λ (x : Chain). x.count) (c.draw.ensures.spare ∙ c.take_chain.ensures.spare) ∙ ap (λ x. x.spare.count) same in
    drew_next m g.A.Allocator.draws g.A.Allocator.refuses k (view a.pass).own u w c.take_chain.ensures.of.setup (λ r x. x) (λ n x. x) none empty (no_free _ a.pass a.local a.free a.spare h c.in_default.ensures.none.1)
    (spares_kept _ a.pass drew.pass a.local drew.local a.free a.spare drew.free drew.spare h c.draw.ensures.caller.chains spares) (found.0.moves ∙ ap (λ x. (view x.pass).own.moves) same) (c.draw.ensures.births ∙ c.take_chain.ensures.births ∙ c.take_free.ensures.births) c.draw.result c.draw.ensures.does c.draw.ensures.moves

pub returns-clause-made : goal.returns-clause-made
returns-clause-made g c = let same = c.in_default.ensures.none.0 in let a = c.take_chain.ensures.made in let b = c.in-Some-take_free.ensures.made.1 in
    subst (λ x. (steps : List Step) × Makes (view x.pass) (view c.take_free-2.new.caller.pass) steps) same (makes_both _ _ _ a.0 _ a.1 b)

pub returns-clause-did : goal.returns-clause-did
returns-clause-did g c = let k = setup_of c.args.table.now in let u : View = view c.take_chain.new.caller.pass in
    let same = c.in_default.ensures.none.0 in let a = c.args.caller.now in let found = c.take_chain.ensures.some c.if-not-take_chain.false in let e = c.in-Some-take_free.ensures in
    let some = subst (λ x. takes_by g.P.Pool.SHELVES g.P.Pool.busy k (view x.pass).own true u.own) same (took_some g.P.Pool.SHELVES g.P.Pool.busy k (view c.take_free.new.caller.pass) u c.take_free.ensures.of.setup _ found) in
    from_pool u.own e.made.0 _ (no_free _ a.pass a.local a.free a.spare c.requires.caller.chains c.in_default.ensures.none.1) some e.again.0 e.made.1.appended
    (let before = found.moves ∙ ap (λ x. (view x.pass).own.moves) same in record { drawn = e.again.1.drawn ∙ ap (λ (x : Moves). x.drawn) before; reused = e.again.1.reused ∙ ap (λ (x : Moves). x.reused + 1) before })

pub returns-clause-owns : goal.returns-clause-owns
returns-clause-owns g c r own = c.in-Some-take_free.ensures.owns r (c.take_chain.ensures.owns r (c.take_free.ensures.owns r own))
