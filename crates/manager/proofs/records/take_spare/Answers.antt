use Rattle.std.proofs.Common.{◌≡◌, ◌+◌, ◌-◌, ℕ, List, [], ◌∷◌, refl, sym, ap, ◌∙◌, subst, get_or, None, Some, arith}
use Rattle.record_memory.specs.declared.books.Moves.{Moves}
use Rattle.record_memory.specs.declared.books.Setup.{Setup}
use Rattle.record_memory.specs.declared.books.View.{View}
use Rattle.record_memory.specs.declared.books.Standing.TheVariants.{Spare}
use Rattle.row_words.specs.Refs.{RefParts}
use Rattle.row_words.specs.declared.links.Chain.{Chain}
use Rattle.record_rule.specs.Asides.{HasSpare, took_spare}
use Rattle.record_rule.specs.ChainRows.{row_in}
use Rattle.record_rule.specs.Kinds.{field_load}
use Rattle.record_rule.specs.Makes.{Makes}
use Rattle.record_table.specs.Handles.{view}
use Rattle.reclaim_api.specs.Chained.{IsChainOf}
use Rattle.reclaim_api.specs.Frames.{in_away}
use Rattle.reclaim_api.proofs.Keeping.{held_then}
use Rattle.record_pieces.specs.OwnSteps.{OneStep, own_load}
use Rattle.record_pieces.specs.Events.{TakesSpare}
use Rattle.record_pieces.proofs.Hands.{hand_left}
use Rattle.manager.proofs.Stay.{mine_stays, AreLists, lists_of, lists_stay, inside_after, keeps_after, answers_after, chains_born}
use Rattle.manager.proofs.Pops.{row_next, pop_count}
use Rattle.manager.proofs.MoveCounts.{same_moves, counted_still}
use Rattle.manager.proofs.Stocks.{stays_kept, spares_in}
use Rattle.manager.proofs.Owns.{owns_mine}
use Rattle.manager.proofs.Takings.{spare_as, first_spare, taken_makes, taken_limbo, taken_moves, taken_births, taken_was, taken_kept, taken_free, taken_owns, taken_hand, taken_rest}
use Rattle.manager.proofs.KeepLocks.{makes_locks}
use Rattle.manager.proofs.records.take_spare.Goals as goal

-- the chains are lists still once the birth was answered
lists : (g : _) (c : goal.After-caller-1 g) → AreLists (view c.birth-birth.new.pass) c.args.caller.now.free c.args.caller.now.spare
lists g c = let a = c.args.caller.now in let b = c.birth-birth in lists_stay (view a.pass) (view b.new.pass) a.free a.spare b.ensures.pass.setup b.ensures.rest (lists_of _ a.pass a.local a.free a.spare c.requires.caller.chains)

pub take_spare-own-requires-clause-spare : goal.take_spare-own-requires-clause-spare
take_spare-own-requires-clause-spare g c = let a = c.args.caller.now in let b = c.birth-birth in let v : View = view b.new.pass in
    let l = lists_stay (view a.pass) v a.free a.spare b.ensures.pass.setup b.ensures.rest (lists_of _ a.pass a.local a.free a.spare c.requires.caller.chains) in (_, first_spare v v a.spare a.spare c.in_ok-first.first l.spares c.in_ok-first.was)

-- what the load of the chain word told
record Took (v w : View) (spare after : Chain) (r : RefParts) (list : IsChainOf Spare v spare) (head : spare.head ≡ Some r) : Type 0 where
  number : ℕ
  step : w ≡ took_spare v r.index number
  next : after.head ≡ (row_in v r).next

took : (g : _) (c : goal.After-caller-1 g) → let v : View = view c.birth-birth.new.pass in let a = c.args.caller.now in
    Took v (view c.take_spare-own.new.pass) a.spare (record { head = c.take_spare-own.result.1; count = a.spare.count - 1 }) c.in_ok-first.first (lists g c).spares c.in_ok-first.was
took g c = let v : View = view c.birth-birth.new.pass in let w : View = view c.take_spare-own.new.pass in let a = c.args.caller.now in let e = c.take_spare-own.ensures in let r = c.in_ok-first.first in
    let list = (lists g c).spares in let head = c.in_ok-first.was in let after : Chain = record { head = c.take_spare-own.result.1; count = a.spare.count - 1 } in
    let row : List ℕ = (spare_as v w a.spare after r list head).owns.share.words in let has : HasSpare v r row = first_spare v w a.spare after r list head in record {
      number = get_or row 1 0;
      step = e.step row has;
      next = e.next row has ∙ sym (row_next Spare v w a.spare after r list head);
    }

pub returns-clause-caller : goal.returns-clause-caller
returns-clause-caller g c = let a = c.args.caller.now in let b = c.birth-birth in let p = b.new.pass in let q = c.take_spare-own.new.pass in let v : View = view p in let w : View = view q in let r = c.in_ok-first.first in let e = c.take_spare-own.ensures in
    let l = lists g c in let head = c.in_ok-first.was in let t = took g c in let n = t.number in
    let after : Chain = record { head = c.take_spare-own.result.1; count = a.spare.count - 1 } in
    let made = taken_makes v w a.spare after r l.spares head n t.step t.next refl in let limbo = taken_limbo v w a.spare after r l.spares head n t.step t.next refl in record {
      inside = inside_after p q e.pass _ made b.ensures.inside;
      chains = chains_born p q e.pass _ made _ b.new.local a.free after g.met.R.Scheme.local_stays b.ensures.local (taken_births v w a.spare after r l.spares head n t.step t.next refl) limbo
          (taken_free v w a.spare after r l.spares head n t.step t.next refl a.free l.frees)
          (taken_rest v w a.spare after r l.spares head n t.step t.next refl)
          (let i = e.idle in let all = l.all in let some = pop_count Spare v w a.spare after r l.spares head in omega arith);
      counts = counted_still v w a.moved limbo (taken_moves v w a.spare after r l.spares head n t.step t.next refl)
          (counted_still (view a.pass) v a.moved (λ i. ap (λ m. in_away (get_or m i None)) b.ensures.rest.mine) (same_moves _ _ b.ensures.rest.moves) c.requires.caller.counts);
    }

-- the one step behind the birth
made : (g : _) (c : goal.After-caller-1 g) → Makes (view c.birth-birth.new.pass) (view c.take_spare-own.new.pass) (field_load (view c.birth-birth.new.pass) c.in_ok-first.first.index 1 (took g c).number ∷ [])
made g c = let a = c.args.caller.now in let t = took g c in taken_makes (view c.birth-birth.new.pass) (view c.take_spare-own.new.pass) a.spare (record { head = c.take_spare-own.result.1; count = a.spare.count - 1 }) c.in_ok-first.first (lists g c).spares c.in_ok-first.was t.number t.step t.next refl

pub returns-clause-keeps : goal.returns-clause-keeps
returns-clause-keeps g c = let p = c.birth-birth.new.pass in let q = c.take_spare-own.new.pass in held_then c.args.caller.now.pass p q c.birth-birth.ensures.keeps (keeps_after p q c.take_spare-own.ensures.pass _ (made g c))

pub returns-clause-answers : goal.returns-clause-answers
returns-clause-answers g c = let p = c.birth-birth.new.pass in let q = c.take_spare-own.new.pass in let x = answers_after p q c.take_spare-own.ensures.pass _ (made g c) in let b = c.birth-birth.ensures.rest in
    record { answered = x.answered ∙ b.answered; front = x.front ∙ b.front }

pub returns-clause-does : goal.returns-clause-does
returns-clause-does g c = let b = c.birth-birth in let v : View = view b.new.pass in let w : View = view c.take_spare-own.new.pass in let n = (took g c).number in (
  v.own,
  b.result,
  n,
  b.ensures.does,
  subst (λ (z : RefParts). OneStep v.own (own_load v.own z 1 n) w.own) (sym c.take_spare-own.ensures.record) (made g c).appended,
)

pub returns-clause-owns : goal.returns-clause-owns
returns-clause-owns g c x own = let a = c.args.caller.now in let b = c.birth-birth.ensures in let v : View = view c.birth-birth.new.pass in let w : View = view c.take_spare-own.new.pass in let r = c.in_ok-first.first in let t = took g c in
    let after : Chain = record { head = c.take_spare-own.result.1; count = a.spare.count - 1 } in
    taken_owns v w a.spare after r (lists g c).spares c.in_ok-first.was t.number t.step t.next refl x (owns_mine _ v (ap (λ (k : Setup). k.records) b.pass.setup) b.rest.mine x own)

pub returns-clause-stock : goal.returns-clause-stock
returns-clause-stock g c = let a = c.args.caller.now in let b = c.birth-birth in let q = c.take_spare-own.new.pass in let v : View = view b.new.pass in let w : View = view q in let r = c.in_ok-first.first in let t = took g c in let l = lists g c in
    let after : Chain = record { head = c.take_spare-own.result.1; count = a.spare.count - 1 } in let rest = b.ensures.rest.moves in
    let before = spares_in _ a.pass a.local a.free a.spare c.requires.caller.chains in let now = spares_in _ q b.new.local a.free after (returns-clause-caller g c).chains in let some = pop_count Spare v w a.spare after r l.spares c.in_ok-first.was in
    let moves = taken_moves v w a.spare after r l.spares c.in_ok-first.was t.number t.step t.next refl in let mine = b.ensures.rest.mine in
    subst (λ (z : RefParts). TakesSpare (view a.pass).own z w.own) (sym c.take_spare-own.ensures.record) record {
      was_spare = stays_kept v (view a.pass) (mine_stays Spare v (view a.pass) (sym mine)) r (taken_was v w a.spare after r l.spares c.in_ok-first.was t.number t.step t.next refl);
      kept = λ x ne is. taken_kept v w a.spare after r l.spares c.in_ok-first.was t.number t.step t.next refl x ne (stays_kept (view a.pass) v (mine_stays Spare (view a.pass) v mine) x is);
      spare = omega arith;
      counts = record {
        births = taken_births v w a.spare after r l.spares c.in_ok-first.was t.number t.step t.next refl ∙ ap (λ (m : Moves). m.births + 1) rest;
        drawn = moves.drawn ∙ ap (λ (m : Moves). m.drawn) rest;
        reused = moves.reused ∙ ap (λ (m : Moves). m.reused) rest;
      };
    }

pub returns-clause-retired : goal.returns-clause-retired
returns-clause-retired g c = (made g c).retired ∙ ap (λ (m : Moves). m.retired) c.birth-birth.ensures.rest.moves

pub returns-clause-hand : goal.returns-clause-hand
returns-clause-hand g c = let a = c.args.caller.now in let v : View = view c.birth-birth.new.pass in let w : View = view c.take_spare-own.new.pass in let t = took g c in
    let after : Chain = record { head = c.take_spare-own.result.1; count = a.spare.count - 1 } in
    taken_hand v w a.spare after c.in_ok-first.first (lists g c).spares c.in_ok-first.was t.number t.step t.next refl ∙ ap (λ (n : ℕ). n + 1) (hand_left (view a.pass) v c.birth-birth.ensures.rest)

pub returns-clause-locks : goal.returns-clause-locks
returns-clause-locks g c = makes_locks _ _ _ (made g c) ∙ c.birth-birth.ensures.rest.locks
