use Rattle.std.proofs.Common.{ap, ◌∙◌, refl, arith}
use Rattle.record_memory.specs.declared.books.Setup.{Setup}
use Rattle.record_table.specs.Handles.{view, setup_of}
use Rattle.reclaim_api.proofs.Putting.{put_frees, put_rest, frees_then, rest_then}
use Rattle.reclaim_hazard.proofs.PutAway.{puts_waiting, puts_scanning}
use Rattle.reclaim_hazard.proofs.scheme.HazardScheme.put_away.Goals as goal

pub returns-then-local-clause-frees : goal.returns-then-local-clause-frees
returns-then-local-clause-frees g c = let k = c.keep.ensures.kept in put_frees (view c.args.pass.now) c.args.taken k.share 0 k.taken (view c.keep.new.pass) k.still c.args.free.now _ (refl, refl)

pub returns-then-local-clause-rest : goal.returns-then-local-clause-rest
returns-then-local-clause-rest g c = let k = c.keep.ensures.kept in put_rest (view c.args.pass.now) c.args.taken k.share 0 k.taken (view c.keep.new.pass) k.still

pub returns-then-local-clause-does : goal.returns-then-local-clause-does
returns-then-local-clause-does g c = let l = c.keep.ensures.local in let few = c.if-local.true in let e = ap (λ (k : Setup). k.callers) (c.keep.ensures.pass.setup ∙ c.requires.pass.setup) in
    puts_waiting (view c.args.pass.now) (view c.keep.new.pass) c.args.taken c.keep.ensures.kept (setup_of c.args.table.now) _ (refl, refl) (let a = l.whole in let b = l.callers in omega arith)

pub returns-clause-frees : goal.returns-clause-frees
returns-clause-frees g c = let k = c.keep.ensures.kept in frees_then (view c.args.pass.now) (view c.keep.new.pass) (view c.scan.new.pass) c.args.free.now c.scan.new.free c.scan.result
    (put_frees (view c.args.pass.now) c.args.taken k.share 0 k.taken (view c.keep.new.pass) k.still c.args.free.now _ (refl, refl)) c.scan.ensures.frees

pub returns-clause-rest : goal.returns-clause-rest
returns-clause-rest g c = let k = c.keep.ensures.kept in rest_then (view c.args.pass.now) (view c.keep.new.pass) (view c.scan.new.pass) c.args.taken.index
    (put_rest (view c.args.pass.now) c.args.taken k.share 0 k.taken (view c.keep.new.pass) k.still) c.scan.ensures.rest

pub returns-clause-does : goal.returns-clause-does
returns-clause-does g c = let l = c.keep.ensures.local in let full = c.if-local.false in let e = ap (λ (k : Setup). k.callers) (c.keep.ensures.pass.setup ∙ c.requires.pass.setup) in
    puts_scanning (view c.args.pass.now) (view c.keep.new.pass) c.args.taken c.keep.ensures.kept (setup_of c.args.table.now) (view c.scan.new.pass) c.scan.result (let a = l.whole in let b = l.callers in omega arith) c.scan.ensures.scanned
