-- How far the pairing of calls and replies has come.
use Rattle.std.proofs.Common.{◌≡◌, ◌+◌, List, [], ◌∷◌, ◌++◌, length, map, sym, ap, ◌∙◌, arith, append-nil, length-append}
use Rattle.std.proofs.lemmas.List.{length-map}
use Rattle.set_model.specs.declared.calls.Call.{Call}
use Rattle.set_model.specs.declared.calls.Reply.{Reply}
use Rattle.report_text.specs.declared.report.Played.{Played}
use Rattle.paired_replies.specs.Pairs.{calls_of, replies_to}

-- Of all lists and replies, these callers have theirs, and these are left.
pub record PairsTo (lists : List (List Call)) (replies : List (List Reply)) (callers : List Played) (calls : List (List Call)) (told : List (List Reply)) : Type 0 where
  pub called : calls_of callers ++ calls ≡ lists
  pub replied : replies_to callers ++ told ≡ replies
  pub pairs : map length told ≡ map length calls

-- each list is a caller's that has its calls, or is left
pub PairsTo-count : {lists : List (List Call)} {replies : List (List Reply)} {callers : List Played} {calls : List (List Call)} {told : List (List Reply)}
    → PairsTo lists replies callers calls told → length callers + length calls ≡ length lists
PairsTo-count {callers = callers} {calls = calls} p =
    omega (arith, ap length p.called, length-append (calls_of callers) calls, length-map callers (λ (played : Played). played.calls))

-- as many replies are left as calls
pub PairsTo-same : {lists : List (List Call)} {replies : List (List Reply)} {callers : List Played} {calls : List (List Call)} {told : List (List Reply)}
    → PairsTo lists replies callers calls told → length told ≡ length calls
PairsTo-same {calls = calls} {told = told} p = sym (length-map told (λ (own : List Reply). length own)) ∙ ap length p.pairs ∙ length-map calls (λ (own : List Call). length own)

-- where no calls are left, all have theirs
pub PairsTo-end : {lists : List (List Call)} {replies : List (List Reply)} {callers : List Played} {calls : List (List Call)} {told : List (List Reply)}
    → PairsTo lists replies callers calls told → length calls ≡ 0 → (calls_of callers ≡ lists) × (replies_to callers ≡ replies)
PairsTo-end {callers = callers} {calls = []} {told = []} p none = (sym (append-nil (calls_of callers)) ∙ p.called, sym (append-nil (replies_to callers)) ∙ p.replied)
PairsTo-end {calls = []} {told = its ∷ told} p none = absurd (cc (p.pairs))
PairsTo-end {calls = own ∷ calls} p none = absurd (omega (arith, none))
