use Rattle.bench_core.proofs.Clauses as ending
use Rattle.bench_core.proofs.top.setbench.Goals as goal

pub returns-clause-words_refused : goal.returns-clause-words_refused
returns-clause-words_refused g c = ending.words_refused c.end_of.ensures

pub returns-clause-words_unread : goal.returns-clause-words_unread
returns-clause-words_unread g c = ending.words_unread c.end_of.ensures

pub returns-clause-unlawful : goal.returns-clause-unlawful
returns-clause-unlawful g c = ending.unlawful c.end_of.ensures

pub returns-clause-unread : goal.returns-clause-unread
returns-clause-unread g c = ending.unread c.end_of.ensures

pub returns-clause-read_fault : goal.returns-clause-read_fault
returns-clause-read_fault g c = ending.read_fault c.end_of.ensures

pub returns-clause-write_fault : goal.returns-clause-write_fault
returns-clause-write_fault g c = ending.write_fault c.end_of.ensures

pub returns-clause-out_of_memory : goal.returns-clause-out_of_memory
returns-clause-out_of_memory g c = ending.out_of_memory c.end_of.ensures

pub returns-clause-quiet : goal.returns-clause-quiet
returns-clause-quiet g c = ending.quiet c.end_of.ensures

pub returns-clause-part : goal.returns-clause-part
returns-clause-part g c = ending.part c.end_of.ensures

pub returns-clause-words_line : goal.returns-clause-words_line
returns-clause-words_line g c = ending.words_line c.end_of.ensures

pub returns-clause-length_line : goal.returns-clause-length_line
returns-clause-length_line g c = ending.length_line c.end_of.ensures

pub returns-clause-pair_line : goal.returns-clause-pair_line
returns-clause-pair_line g c = ending.pair_line c.end_of.ensures

pub returns-clause-workload_line : goal.returns-clause-workload_line
returns-clause-workload_line g c = ending.workload_line c.end_of.ensures

pub returns-clause-checked : goal.returns-clause-checked
returns-clause-checked g c = ending.checked c.end_of.ensures

pub returns-clause-generated : goal.returns-clause-generated
returns-clause-generated g c = ending.generated c.end_of.ensures

pub returns-clause-run : goal.returns-clause-run
returns-clause-run g c = ending.run c.end_of.ensures

pub returns-clause-full : goal.returns-clause-full
returns-clause-full g c = ending.full c.end_of.ensures

pub returns-clause-too_long : goal.returns-clause-too_long
returns-clause-too_long g c = ending.too_long c.end_of.ensures

pub returns-clause-workload_refused : goal.returns-clause-workload_refused
returns-clause-workload_refused g c = ending.workload_refused c.end_of.ensures

pub returns-clause-done : goal.returns-clause-done
returns-clause-done g c = ending.done c.end_of.ensures

pub returns-clause-run_done : goal.returns-clause-run_done
returns-clause-run_done g c = ending.run_done c.end_of.ensures

pub returns-clause-no_read_fault : goal.returns-clause-no_read_fault
returns-clause-no_read_fault g c = ending.no_read_fault c.end_of.ensures

pub returns-clause-no_write_fault : goal.returns-clause-no_write_fault
returns-clause-no_write_fault g c = ending.no_write_fault c.end_of.ensures

pub returns-clause-complete : goal.returns-clause-complete
returns-clause-complete g c = ending.complete c.end_of.ensures

pub returns-clause-alone : goal.returns-clause-alone
returns-clause-alone g c = ending.alone c.end_of.ensures

pub returns-clause-never_full : goal.returns-clause-never_full
returns-clause-never_full g c = ending.never_full c.end_of.ensures

pub returns-clause-plain_never_full : goal.returns-clause-plain_never_full
returns-clause-plain_never_full g c = ending.plain_never_full c.end_of.ensures

pub returns-clause-one_history : goal.returns-clause-one_history
returns-clause-one_history g c = ending.one_history c.end_of.ensures

pub returns-clause-keys : goal.returns-clause-keys
returns-clause-keys g c = ending.keys c.end_of.ensures

pub returns-clause-adds_up : goal.returns-clause-adds_up
returns-clause-adds_up g c = ending.adds_up c.end_of.ensures

pub returns-clause-counts : goal.returns-clause-counts
returns-clause-counts g c = ending.counts c.end_of.ensures

pub returns-clause-unreclaimed : goal.returns-clause-unreclaimed
returns-clause-unreclaimed g c = ending.unreclaimed c.end_of.ensures

pub returns-clause-closed : goal.returns-clause-closed
returns-clause-closed g c = ending.closes c.end_of.ensures
