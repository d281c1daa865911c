use Rattle.key_sums.proofs.ClosedBalance.{closed_balance}
use Rattle.key_sums.proofs.balance.show_balance.Goals as goal

pub returns : goal.returns
returns g c = record { balance = λ f tallies are. closed_balance g.met.S.SortedLists.lists c.args.closed.now f tallies are }
