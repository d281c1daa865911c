use Rattle.record_table.proofs.Sending.{sends}
use Rattle.table_tests.proofs.threads.look_both.Goals as goal

pub join-requires-send-F : goal.join-requires-send-F
join-requires-send-F g c κs within = search sends depth 60

pub join-requires-send-A : goal.join-requires-send-A
join-requires-send-A g c κs within = search sends depth 60
