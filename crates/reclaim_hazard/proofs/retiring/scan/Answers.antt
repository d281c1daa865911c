use Rattle.std.proofs.Common.{◌*◌, ◌∙◌, ℕ, ap, sym}
use Rattle.record_memory.specs.declared.books.Setup.{Setup}
use Rattle.record_table.specs.Handles.{setup_of, view, since, is_inside, IsPassOf}
use Rattle.reclaim_api.proofs.Rows.{pass_still}
use Rattle.reclaim_api.proofs.Sifted.{HasSifted, bag_rows, free_rows, rows_apart, sifted_free, sifted_frees, sifted_rest}
use Rattle.reclaim_hazard.proofs.Sifted.{named, sifted_local, sifted_scan}
use Rattle.reclaim_hazard.proofs.retiring.scan.Goals as goal

pub sift_bag-requires-clause-bag : goal.sift_bag-requires-clause-bag
sift_bag-requires-clause-bag g c = let u = c.load_all.ensures in let l = c.requires.local in
    bag_rows (named c.load_all.new.words.items) (view c.args.pass.now) (view c.load_all.new.pass) u.words.left c.args.local.now.bag c.args.free.now l.bag l.whole c.requires.free _ (pass_still c.args.table.now c.args.pass.now c.load_all.new.pass c.requires.pass u.pass)

pub sift_bag-requires-clause-free : goal.sift_bag-requires-clause-free
sift_bag-requires-clause-free g c = let u = c.load_all.ensures in let l = c.requires.local in
    free_rows (named c.load_all.new.words.items) (view c.args.pass.now) (view c.load_all.new.pass) u.words.left c.args.local.now.bag c.args.free.now l.bag l.whole c.requires.free _ (pass_still c.args.table.now c.args.pass.now c.load_all.new.pass c.requires.pass u.pass)

pub sift_bag-requires-clause-apart : goal.sift_bag-requires-clause-apart
sift_bag-requires-clause-apart g c = let l = c.requires.local in rows_apart (named c.load_all.new.words.items) (view c.args.pass.now) (view c.load_all.new.pass) c.load_all.ensures.words.left c.args.local.now.bag c.args.free.now l.bag l.whole c.requires.free

-- what sifting told
sifted : (g : _) (c : goal.After-sift_bag g) → HasSifted (named c.load_all.new.words.items) (view c.load_all.new.pass) (view c.sift_bag.new.pass) c.args.local.now.bag c.sift_bag.new.bag c.args.free.now c.sift_bag.new.free c.sift_bag.result (IsPassOf c.args.table.now c.sift_bag.new.pass)
sifted g c = record {
  still = c.sift_bag.ensures.still;
  stayed = c.sift_bag.ensures.kept;
  left_list = c.sift_bag.ensures.bag_list;
  moved = c.sift_bag.ensures.freed_refs;
  after_list = c.sift_bag.ensures.free_list;
  freed = c.sift_bag.ensures.freed;
  spent = c.sift_bag.ensures.spent;
}

pub returns-clause-local : goal.returns-clause-local
returns-clause-local g c = let l = c.requires.local in sifted_local c.load_all.new.words.items (view c.args.pass.now) (view c.load_all.new.pass) c.load_all.ensures.words c.args.local.now.bag c.args.free.now l.bag l.whole c.requires.free
    (view c.sift_bag.new.pass) c.sift_bag.new.bag c.sift_bag.new.free c.sift_bag.result _ (sifted g c) c.args.local.now.caller c.args.local.now.callers (is_inside c.args.pass.now) (is_inside c.sift_bag.new.pass) (since c.args.pass.now) (since c.sift_bag.new.pass) c.load_all.ensures.pass.caller l

pub returns-clause-free : goal.returns-clause-free
returns-clause-free g c = let l = c.requires.local in
    sifted_free (named c.load_all.new.words.items) (view c.args.pass.now) (view c.load_all.new.pass) c.load_all.ensures.words.left c.args.local.now.bag c.args.free.now l.bag l.whole c.requires.free (view c.sift_bag.new.pass) c.sift_bag.new.bag c.sift_bag.new.free c.sift_bag.result _ (sifted g c)

pub returns-clause-frees : goal.returns-clause-frees
returns-clause-frees g c = let l = c.requires.local in
    sifted_frees (named c.load_all.new.words.items) (view c.args.pass.now) (view c.load_all.new.pass) c.load_all.ensures.words.left c.args.local.now.bag c.args.free.now l.bag l.whole c.requires.free (view c.sift_bag.new.pass) c.sift_bag.new.bag c.sift_bag.new.free c.sift_bag.result _ (sifted g c)

pub returns-clause-rest : goal.returns-clause-rest
returns-clause-rest g c = let l = c.requires.local in
    sifted_rest (named c.load_all.new.words.items) (view c.args.pass.now) (view c.load_all.new.pass) c.load_all.ensures.words.left c.args.local.now.bag c.args.free.now l.bag l.whole c.requires.free (view c.sift_bag.new.pass) c.sift_bag.new.bag c.sift_bag.new.free c.sift_bag.result _ (sifted g c)

pub returns-clause-scanned : goal.returns-clause-scanned
returns-clause-scanned g c = let l = c.requires.local in sifted_scan c.load_all.new.words.items (view c.args.pass.now) (view c.load_all.new.pass) c.load_all.ensures.words c.args.local.now.bag c.args.free.now l.bag l.whole c.requires.free
    (view c.sift_bag.new.pass) c.sift_bag.new.bag c.sift_bag.new.free c.sift_bag.result _ (sifted g c) (setup_of c.args.table.now) (c.load_all.ensures.all ∙ ap (λ (n : ℕ). 3 * n) (sym l.callers ∙ ap (λ (k : Setup). k.callers) c.requires.pass.setup))
