use Rattle.record_table.proofs.Sending.{sends}
use Rattle.record_table.proofs.crossing.look_elsewhere.Goals as goal

pub join-requires-send-F : goal.join-requires-send-F
join-requires-send-F g c κs within = search sends depth 60

pub join-requires-send-A : goal.join-requires-send-A
join-requires-send-A g c κs within = search sends depth 60
