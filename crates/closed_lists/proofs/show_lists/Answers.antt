use Rattle.list_facts.proofs.ListEnds.{closed_lists}
use Rattle.closed_lists.proofs.show_lists.Goals as goal

pub returns-clause-lists : goal.returns-clause-lists
returns-clause-lists g c = λ f. closed_lists g.met.S.SortedLists.lists f

pub returns-clause-has : goal.returns-clause-has
returns-clause-has g c = λ f. (f.records, f.taken_out, closed_lists g.met.S.SortedLists.lists f)
