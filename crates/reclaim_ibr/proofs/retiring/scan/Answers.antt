use Rattle.std.proofs.Common.{◌*◌, ◌∙◌, ℕ, List, ap, sym, subst}
use Rattle.record_memory.specs.declared.books.Setup.{Setup}
use Rattle.record_table.specs.Handles.{setup_of, view, since, is_inside, IsPassOf}
use Rattle.reclaim_api.proofs.Rows.{pass_still}
use Rattle.reclaim_api.proofs.Sifted.{HasSifted, bag_rows, free_rows, rows_apart, sifted_free, sifted_frees, sifted_rest}
use Rattle.reclaim_ibr.specs.Meeting.{meets}
use Rattle.reclaim_ibr.proofs.Sifting.{scanned_local, has_scanned}
use Rattle.reclaim_ibr.proofs.retiring.scan.Goals as goal

pub sift_bag-requires-clause-bag : goal.sift_bag-requires-clause-bag
sift_bag-requires-clause-bag g c = let u = c.load_all.ensures in let l = c.requires.local in
    bag_rows (meets c.load_all.new.ends.items) (view c.args.pass.now) (view c.load_all.new.pass) u.ends.left c.args.local.now.bag c.args.free.now l.bag l.whole c.requires.free _ (pass_still c.args.table.now c.args.pass.now c.load_all.new.pass c.requires.pass u.pass)

pub sift_bag-requires-clause-free : goal.sift_bag-requires-clause-free
sift_bag-requires-clause-free g c = let u = c.load_all.ensures in let l = c.requires.local in
    free_rows (meets c.load_all.new.ends.items) (view c.args.pass.now) (view c.load_all.new.pass) u.ends.left c.args.local.now.bag c.args.free.now l.bag l.whole c.requires.free _ (pass_still c.args.table.now c.args.pass.now c.load_all.new.pass c.requires.pass u.pass)

pub sift_bag-requires-clause-apart : goal.sift_bag-requires-clause-apart
sift_bag-requires-clause-apart g c = let l = c.requires.local in rows_apart (meets c.load_all.new.ends.items) (view c.args.pass.now) (view c.load_all.new.pass) c.load_all.ensures.ends.left c.args.local.now.bag c.args.free.now l.bag l.whole c.requires.free

-- what sifting told, by the ends that were loaded
sifted : (g : _) (c : goal.After-sift_bag g) → HasSifted (meets c.load_all.new.ends.items) (view c.load_all.new.pass) (view c.sift_bag.new.pass) c.args.local.now.bag c.sift_bag.new.bag c.args.free.now c.sift_bag.new.free c.sift_bag.result (IsPassOf c.args.table.now c.sift_bag.new.pass)
sifted g c = subst (λ (ends : List ℕ). HasSifted (meets ends) (view c.load_all.new.pass) (view c.sift_bag.new.pass) c.args.local.now.bag c.sift_bag.new.bag c.args.free.now c.sift_bag.new.free c.sift_bag.result (IsPassOf c.args.table.now c.sift_bag.new.pass)) c.as_slice.ensures.value record {
  still = c.sift_bag.ensures.still;
  stayed = c.sift_bag.ensures.kept;
  left_list = c.sift_bag.ensures.bag_list;
  moved = c.sift_bag.ensures.freed_refs;
  after_list = c.sift_bag.ensures.free_list;
  freed = c.sift_bag.ensures.freed;
  spent = c.sift_bag.ensures.spent;
}

pub returns-clause-local : goal.returns-clause-local
returns-clause-local g c = let u = c.load_all.ensures in scanned_local c.load_all.new.ends.items (view c.args.pass.now) (view c.load_all.new.pass) u.ends c.args.local.now (is_inside c.args.pass.now) (since c.args.pass.now) c.requires.local c.args.free.now c.requires.free
    (view c.sift_bag.new.pass) c.sift_bag.new.bag c.sift_bag.new.free c.sift_bag.result _ (sifted g c) (is_inside c.sift_bag.new.pass) (since c.sift_bag.new.pass) u.pass.caller
    (ap (λ x. x.value) (c.sift_bag.ensures.pass.inside ∙ u.pass.inside)) (ap (λ x. x.value.me.0) (c.sift_bag.ensures.pass.since ∙ u.pass.since))

pub returns-clause-free : goal.returns-clause-free
returns-clause-free g c = let l = c.requires.local in
    sifted_free (meets c.load_all.new.ends.items) (view c.args.pass.now) (view c.load_all.new.pass) c.load_all.ensures.ends.left c.args.local.now.bag c.args.free.now l.bag l.whole c.requires.free (view c.sift_bag.new.pass) c.sift_bag.new.bag c.sift_bag.new.free c.sift_bag.result _ (sifted g c)

pub returns-clause-frees : goal.returns-clause-frees
returns-clause-frees g c = let l = c.requires.local in
    sifted_frees (meets c.load_all.new.ends.items) (view c.args.pass.now) (view c.load_all.new.pass) c.load_all.ensures.ends.left c.args.local.now.bag c.args.free.now l.bag l.whole c.requires.free (view c.sift_bag.new.pass) c.sift_bag.new.bag c.sift_bag.new.free c.sift_bag.result _ (sifted g c)

pub returns-clause-rest : goal.returns-clause-rest
returns-clause-rest g c = let l = c.requires.local in
    sifted_rest (meets c.load_all.new.ends.items) (view c.args.pass.now) (view c.load_all.new.pass) c.load_all.ensures.ends.left c.args.local.now.bag c.args.free.now l.bag l.whole c.requires.free (view c.sift_bag.new.pass) c.sift_bag.new.bag c.sift_bag.new.free c.sift_bag.result _ (sifted g c)

pub returns-clause-scanned : goal.returns-clause-scanned
returns-clause-scanned g c = has_scanned c.load_all.new.ends.items (view c.args.pass.now) (view c.load_all.new.pass) c.load_all.ensures.ends c.args.local.now (is_inside c.args.pass.now) (since c.args.pass.now) c.requires.local c.args.free.now c.requires.free
    (view c.sift_bag.new.pass) c.sift_bag.new.bag c.sift_bag.new.free c.sift_bag.result _ (sifted g c) (setup_of c.args.table.now) (c.load_all.ensures.all ∙ ap (λ (n : ℕ). 2 * n) (sym c.requires.local.callers ∙ ap (λ (k : Setup). k.callers) c.requires.pass.setup))
