-- A run is legal exactly where its replies explain each other.
use Rattle.std.proofs.Common.{◌≡◌, ℕ, Bool, true, false, cond, not, ◌&&◌, ◌||◌, eqb, List, [], ◌∷◌, refl, sym, ap, ◌∙◌, subst}
use Rattle.std.specs.Prelude.{◌↔◌, Some, None, unwrap_or}
use Rattle.std.specs.Cmp.{nat_eq_equiv}
use Rattle.std.proofs.lemmas.Bool.{not-true, not-false}
use Rattle.set_model.specs.declared.calls.Call.{Call}
use Rattle.set_model.specs.declared.calls.Call.TheVariants.{Insert, Remove, Search}
use Rattle.set_model.specs.declared.calls.Reply.{Reply}
use Rattle.set_model.specs.declared.calls.Reply.TheVariants.{Yes, No, Full}
use Rattle.set_model.specs.Keys.{Keys, empty, contains}
use Rattle.set_model.specs.Machine.{key_of, answer_of, keys_after, reply_of_answer, reply_of, IsLegalReply, keys_after_reply, IsLegalRun}
use Rattle.set_model.specs.Explained.{change_of, was_added, TellsPresence, ExplainedAfter, IsExplained}
use Rattle.set_model.proofs.KeySets.{contains-empty, contains-insert, contains-remove}
use Rattle.set_model.proofs.MachineRuns.{keys_after-answered_no}

yes_is : (b : Bool) → Yes ≡ reply_of_answer b → b ≡ true
yes_is true is = refl
yes_is false is = cc

no_is : (b : Bool) → No ≡ reply_of_answer b → b ≡ false
no_is true is = cc
no_is false is = refl

-- a legal reply tells whether the key is there
legal_tells : (call : Call) (reply : Reply) (keys : Keys) → IsLegalReply call reply keys → TellsPresence (contains keys (key_of call)) call reply
legal_tells call Full keys legal = tt
legal_tells (Insert key) Yes keys legal = not-true _ (yes_is _ legal)
legal_tells (Insert key) No keys legal = not-false _ (no_is _ legal)
legal_tells (Remove key) Yes keys legal = yes_is _ legal
legal_tells (Remove key) No keys legal = no_is _ legal
legal_tells (Search key) Yes keys legal = yes_is _ legal
legal_tells (Search key) No keys legal = no_is _ legal

-- and a reply that tells it is legal
tells_legal : (call : Call) (reply : Reply) (keys : Keys) → TellsPresence (contains keys (key_of call)) call reply → IsLegalReply call reply keys
tells_legal call Full keys tells = tt
tells_legal (Insert key) Yes keys tells = sym (ap (λ b. reply_of_answer (not b)) tells)
tells_legal (Insert key) No keys tells = sym (ap (λ b. reply_of_answer (not b)) tells)
tells_legal (Remove key) Yes keys tells = sym (ap reply_of_answer tells)
tells_legal (Remove key) No keys tells = sym (ap reply_of_answer tells)
tells_legal (Search key) Yes keys tells = sym (ap reply_of_answer tells)
tells_legal (Search key) No keys tells = sym (ap reply_of_answer tells)

or_else : (b c : Bool) → (b || c) ≡ unwrap_or (cond b (Some true) None) c
or_else true c = refl
or_else false c = refl

unless : (b c : Bool) → (not b && c) ≡ unwrap_or (cond b (Some false) None) c
unless true c = refl
unless false c = refl

denied : (call : Call) (keys : Keys) (key : ℕ) → No ≡ reply_of call keys → contains (keys_after call keys) key ≡ contains keys key
denied call keys key legal = ap (λ s. contains s key) (keys_after-answered_no call keys (no_is (answer_of call keys) legal))

-- after a legal reply a key is there by what the call did to it
contains-keys_after_reply : (call : Call) (reply : Reply) (keys : Keys) → IsLegalReply call reply keys → (key : ℕ) → contains (keys_after_reply call reply keys) key ≡ unwrap_or (change_of call reply key) (contains keys key)
contains-keys_after_reply (Insert added) Full keys legal key = refl
contains-keys_after_reply (Remove gone) Full keys legal key = refl
contains-keys_after_reply (Search sought) Full keys legal key = refl
contains-keys_after_reply (Insert added) Yes keys legal key =
    contains-insert keys added key ∙ or_else (eqb key added) (contains keys key) ∙ ap (λ b. unwrap_or (cond b (Some true) None) (contains keys key)) (nat_eq_equiv.symm key added)
contains-keys_after_reply (Remove gone) Yes keys legal key =
    contains-remove keys gone key ∙ unless (eqb key gone) (contains keys key) ∙ ap (λ b. unwrap_or (cond b (Some false) None) (contains keys key)) (nat_eq_equiv.symm key gone)
contains-keys_after_reply (Search sought) Yes keys legal key = refl
contains-keys_after_reply (Insert added) No keys legal key = denied (Insert added) keys key legal
contains-keys_after_reply (Remove gone) No keys legal key = denied (Remove gone) keys key legal
contains-keys_after_reply (Search sought) No keys legal key = refl

explained_after : (before : List (Call × Reply)) (calls : List Call) (replies : List Reply) (keys : Keys) → ((key : ℕ) → contains keys key ≡ was_added before key) → IsLegalRun calls replies keys ↔ ExplainedAfter before calls replies
explained_after before [] [] keys known = (λ _. tt, λ _. tt)
explained_after before [] (reply ∷ replies) keys known = (λ run. run, λ told. told)
explained_after before (call ∷ calls) [] keys known = (λ run. run, λ told. told)
explained_after before (call ∷ calls) (reply ∷ replies) keys known =
    let there = known (key_of call) in
    let later = λ (legal : IsLegalReply call reply keys). explained_after ((call, reply) ∷ before) calls replies (keys_after_reply call reply keys)
    (λ key. contains-keys_after_reply call reply keys legal key ∙ ap (unwrap_or (change_of call reply key)) (known key)) in (
      λ run. (subst (λ b. TellsPresence b call reply) there (legal_tells call reply keys run.0), (later run.0).0 run.1),
      λ told. let legal = tells_legal call reply keys (subst (λ b. TellsPresence b call reply) (sym there) told.0) in (legal, (later legal).1 told.1),
    )

-- from the empty set
pub explained_run : (calls : List Call) (replies : List Reply) → IsLegalRun calls replies empty ↔ IsExplained calls replies
explained_run calls replies = explained_after [] calls replies empty contains-empty
