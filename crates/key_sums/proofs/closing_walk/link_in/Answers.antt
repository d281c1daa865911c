use Rattle.std.proofs.Common.{sym, subst}
use Rattle.row_words.specs.Packing.{IsPackedLink}
use Rattle.key_sums.proofs.ClosedRows.{packed_links}
use Rattle.key_sums.proofs.closing_walk.link_in.Goals as goal

pub link_of-requires : goal.link_of-requires
link_of-requires c = record { packed = subst IsPackedLink (sym c.word_in.ensures.word) (packed_links c.requires.lists.2.listed c.args.row c.requires.row) }
