-- The sequential machine of each set: which update may come behind others, and what a call that changes nothing is told there.
use Rattle.std.specs.Prelude.{◌≡◌, List, Bool, true}
use Rattle.set_model.specs.declared.calls.Call.{Call}
use Rattle.set_model.specs.declared.calls.Update.{Update}
use Rattle.set_model.specs.declared.names.SetName.{SetName}
use Rattle.set_model.specs.declared.names.SetName.TheVariants.{Plain, Michael, Lazy}
use Rattle.set_model.specs.Histories.{call_of, keys_of, IsRead}
use Rattle.set_model.specs.Machine.{answer_of, reply_of_answer}

-- of the sets of keys
abbrev pub set_legal : List Update → Update → Type 0
set_legal updates u = answer_of (call_of u) (keys_of updates) ≡ true

abbrev pub set_replies : List Update → Call → Bool → Type 0
set_replies updates call r = IsRead call (reply_of_answer r) × (r ≡ answer_of call (keys_of updates))

-- by name
abbrev pub legal_for : SetName → List Update → Update → Type 0
legal_for Plain = set_legal
legal_for Michael = set_legal
legal_for Lazy = set_legal

abbrev pub replies_for : SetName → List Update → Call → Bool → Type 0
replies_for Plain = set_replies
replies_for Michael = set_replies
replies_for Lazy = set_replies
