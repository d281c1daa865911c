use Rattle.std.proofs.Common.{sym, ◌∙◌, refl, subst}
use Rattle.record_memory.specs.declared.books.View.{View}
use Rattle.record_table.specs.Handles.{view, IsPassOf}
use Rattle.row_words.specs.declared.links.Chain.{Chain}
use Rattle.reclaim_debra.specs.LocalParts.{KeepsBags}
use Rattle.reclaim_debra.proofs.Loads.{again_bags, again_rest, again_setup, again_read}
use Rattle.reclaim_debra.proofs.Entered.{records_free, records_rest, records_frees}
use Rattle.reclaim_api.proofs.Rows.{pass_still}
use Rattle.reclaim_debra.proofs.Shifting.{HasMoved, third_rows, free_rows, free_apart, shift_bags, shift_free, shift_frees, shift_rest, shift_read}
use Rattle.reclaim_debra.proofs.entering.read_epoch.Goals as goal

pub returns-then-epoch-bags-clause-bags : goal.returns-then-epoch-bags-clause-bags
returns-then-epoch-bags-clause-bags g c = again_bags c.args.bags.now (view c.args.pass.now) c.requires.bags c.load_control-epoch.result (view c.load_control-epoch.new.pass) c.load_control-epoch.ensures.step c.if-epoch-bags.true

pub returns-then-epoch-bags-clause-free : goal.returns-then-epoch-bags-clause-free
returns-then-epoch-bags-clause-free g c = let v : View = view c.args.pass.now in let u : View = view c.load_control-epoch.new.pass in
    records_free v u c.args.free.now (again_setup c.args.bags.now v c.requires.bags c.load_control-epoch.result u c.load_control-epoch.ensures.step c.if-epoch-bags.true)
    (again_rest c.args.bags.now v c.requires.bags c.load_control-epoch.result u c.load_control-epoch.ensures.step c.if-epoch-bags.true) c.requires.free

pub returns-then-epoch-bags-clause-frees : goal.returns-then-epoch-bags-clause-frees
returns-then-epoch-bags-clause-frees g c = let v : View = view c.args.pass.now in let u : View = view c.load_control-epoch.new.pass in
    records_frees v u c.args.free.now _ (again_rest c.args.bags.now v c.requires.bags c.load_control-epoch.result u c.load_control-epoch.ensures.step c.if-epoch-bags.true) refl refl

pub returns-then-epoch-bags-clause-rest : goal.returns-then-epoch-bags-clause-rest
returns-then-epoch-bags-clause-rest g c = let v : View = view c.args.pass.now in let u : View = view c.load_control-epoch.new.pass in
    records_rest v u (again_rest c.args.bags.now v c.requires.bags c.load_control-epoch.result u c.load_control-epoch.ensures.step c.if-epoch-bags.true)

pub returns-then-epoch-bags-clause-read : goal.returns-then-epoch-bags-clause-read
returns-then-epoch-bags-clause-read g c = again_read c.args.bags.now (view c.args.pass.now) c.requires.bags c.load_control-epoch.result (view c.load_control-epoch.new.pass) c.load_control-epoch.ensures.step c.if-epoch-bags.true _ refl refl

pub free_bag-freed-requires-clause-bag : goal.free_bag-freed-requires-clause-bag
free_bag-freed-requires-clause-bag g c = third_rows c.args.bags.now (view c.args.pass.now) c.requires.bags c.load_control-epoch.result (view c.load_control-epoch.new.pass)
    c.load_control-epoch.ensures.step c.if-epoch-bags.false c.args.free.now c.requires.free _
    (pass_still c.args.table.now c.args.pass.now c.load_control-epoch.new.pass c.requires.pass c.load_control-epoch.ensures.pass)

pub free_bag-freed-requires-clause-free : goal.free_bag-freed-requires-clause-free
free_bag-freed-requires-clause-free g c = free_rows c.args.bags.now (view c.args.pass.now) c.requires.bags c.load_control-epoch.result (view c.load_control-epoch.new.pass)
    c.load_control-epoch.ensures.step c.if-epoch-bags.false c.args.free.now c.requires.free _
    (pass_still c.args.table.now c.args.pass.now c.load_control-epoch.new.pass c.requires.pass c.load_control-epoch.ensures.pass)

pub free_bag-freed-requires-clause-apart : goal.free_bag-freed-requires-clause-apart
free_bag-freed-requires-clause-apart g c = free_apart c.args.bags.now (view c.args.pass.now) c.requires.bags c.load_control-epoch.result (view c.load_control-epoch.new.pass)
    c.load_control-epoch.ensures.step c.if-epoch-bags.false c.args.free.now c.requires.free

-- what moving the third bag told
moved : (g : _) (c : goal.After-bags-2-1 g) → HasMoved (view c.load_control-epoch.new.pass) (view c.free_bag-freed.new.pass) (IsPassOf c.args.table.now c.load_control-epoch.new.pass) (IsPassOf c.args.table.now c.free_bag-freed.new.pass)
    c.args.bags.now.third c.args.free.now c.free_bag-freed.new.free c.free_bag-freed.result
moved g c = let x = c.free_bag-freed.ensures in record {
  was = pass_still c.args.table.now c.args.pass.now c.load_control-epoch.new.pass c.requires.pass c.load_control-epoch.ensures.pass;
  still = x.still;
  refs = x.refs;
  list = x.list;
  freed = x.freed;
  spent = x.spent;
  kept = x.others;
}

pub returns-clause-free : goal.returns-clause-free
returns-clause-free g c = shift_free c.args.bags.now (view c.args.pass.now) c.requires.bags c.load_control-epoch.result (view c.load_control-epoch.new.pass)
    c.load_control-epoch.ensures.step c.if-epoch-bags.false c.args.free.now c.requires.free
    (view c.free_bag-freed.new.pass) _ _ c.free_bag-freed.new.free c.free_bag-freed.result (moved g c)

pub returns-clause-frees : goal.returns-clause-frees
returns-clause-frees g c = shift_frees c.args.bags.now (view c.args.pass.now) c.requires.bags c.load_control-epoch.result (view c.load_control-epoch.new.pass)
    c.load_control-epoch.ensures.step c.if-epoch-bags.false c.args.free.now c.requires.free
    (view c.free_bag-freed.new.pass) _ _ c.free_bag-freed.new.free c.free_bag-freed.result (moved g c)

pub returns-clause-rest : goal.returns-clause-rest
returns-clause-rest g c = shift_rest c.args.bags.now (view c.args.pass.now) c.requires.bags c.load_control-epoch.result (view c.load_control-epoch.new.pass)
    c.load_control-epoch.ensures.step c.if-epoch-bags.false c.args.free.now c.requires.free
    (view c.free_bag-freed.new.pass) _ _ c.free_bag-freed.new.free c.free_bag-freed.result (moved g c)

pub returns-clause-read : goal.returns-clause-read
returns-clause-read g c = shift_read c.args.bags.now (view c.args.pass.now) c.requires.bags c.load_control-epoch.result (view c.load_control-epoch.new.pass)
    c.load_control-epoch.ensures.step c.if-epoch-bags.false c.args.free.now c.requires.free
    (view c.free_bag-freed.new.pass) _ _ c.free_bag-freed.new.free c.free_bag-freed.result (moved g c)

pub returns-clause-bags : goal.returns-clause-bags
returns-clause-bags g c = subst (λ (x : Chain × Chain × Chain). KeepsBags (record { reading = c.load_control-epoch.result; place = 0; current = x.0; second = x.1; third = x.2 }) (view c.free_bag-freed.new.pass))
    (λ k. (sym (c.swap-2.ensures.y_after ∙ c.swap.ensures.y_after) k, sym c.swap-2.ensures.x_after k, sym c.swap.ensures.x_after k))
    (shift_bags c.args.bags.now (view c.args.pass.now) c.requires.bags c.load_control-epoch.result (view c.load_control-epoch.new.pass)
    c.load_control-epoch.ensures.step c.if-epoch-bags.false c.args.free.now c.requires.free
    (view c.free_bag-freed.new.pass) _ _ c.free_bag-freed.new.free c.free_bag-freed.result (moved g c) c.free_bag-freed.new.bag c.free_bag-freed.ensures.head c.free_bag-freed.ensures.empty)
