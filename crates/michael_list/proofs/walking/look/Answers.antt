use Rattle.std.proofs.Common.{◌≡◌, ◌<◌, ◌+◌, ◌++◌, Bool, true, false, IsTrue, Some, sym, ap, ◌∙◌, subst, arith}
use Rattle.row_words.specs.Refs.{LinkParts}
use Rattle.record_rule.specs.Facts.{HasMark}
use Rattle.record_table.specs.Handles.{view}
use Rattle.set_calls.specs.Knowing.{HasSeenKey}
use Rattle.set_calls.proofs.Going.{did_then}
use Rattle.michael_list.specs.declared.spots.Spot.TheVariants.{Absent}
use Rattle.michael_list.specs.declared.spots.Landing.TheVariants.{Found}
use Rattle.michael_list.specs.Walks.{unmarked, loads, TakesOut, Looks, passes, finds, misses, clears, is_late}
use Rattle.michael_list.specs.Knowing.{IsMarkNoted}
use Rattle.list_calls.proofs.Standing.{stands_relinked}
use Rattle.michael_list.proofs.walking.look.Goals as goal

-- what the test of the mark says
is_marked : (b : Bool) (link : LinkParts) → (IsTrue b → HasMark link) → b ≡ true → HasMark link
is_marked b link is e = is e

not_marked : (b : Bool) (link : LinkParts) → (HasMark link → IsTrue b) → b ≡ false → ¬ HasMark link
not_marked b link is e mark = let t = is mark in let none : ⊥ = cc in none

pub take_out-requires-clause-marked : goal.take_out-requires-clause-marked
take_out-requires-clause-marked g c = let link = c.read-found.result.1 in
    subst (λ (l : LinkParts). IsMarkNoted c.read-found.new.guard.caller.now.pass c.args.at l) (sym c.clean.ensures.link) (c.read-found.ensures.marked (is_marked c.is_marked.result link c.is_marked.ensures.0 c.if-is_marked.true))

pub returns-then-take_out-clause-landing : goal.returns-then-take_out-clause-landing
returns-then-take_out-clause-landing g c =
    let reached = c.read-found.ensures.reached in
    let s = stands_relinked c.read-found.new.guard.caller.now.pass c.take_out.new.guard.caller.now.pass c.take_out.ensures.on.same.pass.setup c.args.root c.args.before c.take_out.ensures.keeps c.args.before reached.before_it.stands in
    (record { stands = s.0; below = let e = s.1 in let b = reached.before_it.below in omega arith }, s.1 ∙ c.read-found.ensures.low)

pub returns-then-take_out-clause-did : goal.returns-then-take_out-clause-did
returns-then-take_out-clause-did g c = let link = c.read-found.result.1 in let found = c.read-found.result.0 in let then = (view c.read-found.new.guard.caller.now.pass).own.updates_seen in let did = c.take_out.ensures.did in
    let out : TakesOut c.args.before c.args.at (unmarked link) true did.0 = subst (λ (z : LinkParts × Bool). TakesOut c.args.before c.args.at z.0 z.1 did.0) (λ k. (c.clean.ensures.link k, c.if-take_out.true k)) did.1 in (
      loads c.args.at found link then ++ did.0,
      clears found link then (is_marked c.is_marked.result link c.is_marked.ensures.0 c.if-is_marked.true) out,
      did_then c.args.guard.now c.read-found.new.guard c.take_out.new.guard (loads c.args.at found link then) did.0 c.read-found.ensures.on.same.manager c.read-found.ensures.did did.2,
    )

pub returns-then-is_marked-clause-did : goal.returns-then-is_marked-clause-did
returns-then-is_marked-clause-did g c = let link = c.read-found.result.1 in let found = c.read-found.result.0 in let then = (view c.read-found.new.guard.caller.now.pass).own.updates_seen in let did = c.take_out.ensures.did in
    let late : TakesOut c.args.before c.args.at (unmarked link) false did.0 = subst (λ (z : LinkParts × Bool). TakesOut c.args.before c.args.at z.0 z.1 did.0) (λ k. (c.clean.ensures.link k, c.if-take_out.false k)) did.1 in (
      loads c.args.at found link then ++ did.0,
      is_late found link then (is_marked c.is_marked.result link c.is_marked.ensures.0 c.if-is_marked.true) late,
      did_then c.args.guard.now c.read-found.new.guard c.take_out.new.guard (loads c.args.at found link then) did.0 c.read-found.ensures.on.same.manager c.read-found.ensures.did did.2,
    )

pub returns-then-found-key-clause-landing : goal.returns-then-found-key-clause-landing
returns-then-found-key-clause-landing g c = let reached = c.read-found.ensures.reached in let rank_is = c.read-found.ensures.key in let less = c.if-found-key.true in
    (record { stands = reached.stands; below = omega arith }, rank_is, (let r = reached.rises in let l = c.read-found.ensures.low in omega arith))

pub returns-then-found-key-clause-did : goal.returns-then-found-key-clause-did
returns-then-found-key-clause-did g c = let link = c.read-found.result.1 in let found = c.read-found.result.0 in let then = (view c.read-found.new.guard.caller.now.pass).own.updates_seen in (
  loads c.args.at found link then,
  passes found link then (not_marked c.is_marked.result link c.is_marked.ensures.1 c.if-is_marked.false) c.if-found-key.true,
  c.read-found.ensures.did,
)

pub returns-then-found-key-2-clause-landing : goal.returns-then-found-key-2-clause-landing
returns-then-found-key-2-clause-landing g c = let link = c.read-found.result.1 in let reached = c.read-found.ensures.reached in
    let clear = c.read-found.ensures.clear (not_marked c.is_marked.result link c.is_marked.ensures.1 c.if-is_marked.false) in
    let same = c.if-found-key-2.true in
    (reached.before_it, reached.stands, c.read-found.ensures.key ∙ ap (λ k. k + 1) same, clear.0, clear.1, clear.2 same)

pub returns-then-found-key-2-clause-did : goal.returns-then-found-key-2-clause-did
returns-then-found-key-2-clause-did g c = let link = c.read-found.result.1 in let found = c.read-found.result.0 in let then = (view c.read-found.new.guard.caller.now.pass).own.updates_seen in (
  loads c.args.at found link then,
  finds found link then (not_marked c.is_marked.result link c.is_marked.ensures.1 c.if-is_marked.false) c.if-found-key-2.true,
  c.read-found.ensures.did,
)

pub returns-clause-landing : goal.returns-clause-landing
returns-clause-landing g c = let reached = c.read-found.ensures.reached in let rank_is = c.read-found.ensures.key in
    let above : c.args.key + 1 < c.read-found.result.0 + 1 = omega arith in
    (reached.before_it, (reached.stands, omega arith), subst (HasSeenKey c.read-found.new.guard.caller.now.pass c.args.key false) (sym reached.reached_at) (reached.gap (omega arith)))

pub returns-clause-did : goal.returns-clause-did
returns-clause-did g c = let link = c.read-found.result.1 in let found = c.read-found.result.0 in let then = (view c.read-found.new.guard.caller.now.pass).own.updates_seen in (
  loads c.args.at found link then,
  subst (λ shown. Looks c.args.key c.args.before c.args.at (view c.args.guard.now.caller.now.pass).own.updates_seen (Found (Absent c.args.before (Some c.args.at))) (Some shown) (loads c.args.at found link then)) (sym c.read-found.ensures.reached.reached_at)
      (misses found link then (not_marked c.is_marked.result link c.is_marked.ensures.1 c.if-is_marked.false) (omega arith)),
  c.read-found.ensures.did,
)
