-- A caller of a list may go to another thread where its reclaimer's own part may.
use denote.RattleType.{RattleType}
use denote.Param.Send.{IsSend, AllSend, recorded_send, struct_send}
use denote.Struct.Declared.{fields, shape}
use denote.Struct.Struct.{Struct}
use Rattle.record_table.proofs.Sending.{sends}
use Rattle.manager.specs.contracts.types.Caller as caller
use Rattle.michael_list.specs.contracts.shape.MichaelShape as michael

pub caller_sends : (R L : RattleType) → IsSend L → IsSend (caller.the_row michael.the_row R L)
caller_sends R L l =
    let of = caller.the_type michael.the_row R L in
    let parts : AllSend (fields of) = (search sends depth 60, (l, (search sends depth 60, (search sends depth 60, (search sends depth 60, tt))))) in
    recorded_send (Struct (shape of)) of.D of.to of.to_one (struct_send (shape of) parts)
