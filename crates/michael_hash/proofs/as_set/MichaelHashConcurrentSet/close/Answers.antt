use Rattle.std.proofs.Common.{◌∙◌}
use Rattle.record_table.specs.Closing.{own_book, BeginsHistory}
use Rattle.michael_hash.proofs.Seats.{all_passes, read_off, each_off}
use Rattle.michael_hash.proofs.as_set.MichaelHashConcurrentSet.close.Goals as goal

pub close-requires : goal.close-requires
close-requires g c = all_passes g.R.Scheme.is_local c.args.self.lists.manager.table c.args.callers.items c.requires.has c.requires.order

pub returns-clause-books : goal.returns-clause-books
returns-clause-books g c = c.close.ensures.books ∙ read_off own_book c.args.callers.items

pub returns-clause-fronts : goal.returns-clause-fronts
returns-clause-fronts g c = each_off (BeginsHistory c.close.result) c.args.callers.items c.close.ensures.fronts
