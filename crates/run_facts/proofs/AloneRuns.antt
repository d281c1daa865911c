-- Callers of a closed table that share no key: each is answered what it would be answered alone.
use mathlib.Core.Option.{some, some-injective}
use Rattle.std.proofs.Common.{◌≡◌, ◌≢◌, ℕ, zero, suc, ◌<◌, List, [], ◌∷◌, length, map, drop, get_or, slice_get, Option, Some, None, refl, sym, ap, ◌∙◌, subst, arith}
use Rattle.std.specs.List.{AllByRecursion}
use Rattle.std.proofs.lemmas.List.Elements.{recursion_from_All}
use Rattle.std.proofs.lemmas.Option.{slice_get-get_or, slice_get_within, get_or_from_slice_get}
use Rattle.std.proofs.lemmas.Simd.{map-map}
use Rattle.atomic_table.proofs.Lists.{at_map}
use Rattle.set_model.specs.declared.calls.Call.{Call}
use Rattle.set_model.specs.declared.calls.Reply.{Reply}
use Rattle.set_model.specs.declared.calls.Reply.TheVariants.{Yes, No, Full}
use Rattle.set_model.specs.declared.calls.Update.{Update}
use Rattle.set_model.specs.declared.names.SetName.{SetName}
use Rattle.set_model.specs.Keys.{Keys, empty}
use Rattle.set_model.specs.Machine.{key_of, keys_after, reply_of, reply_of_answer, replies_of, IsLegalRun}
use Rattle.record_memory.specs.declared.books.Answered.{Answered}
use Rattle.record_memory.specs.declared.books.Book.{Book}
use Rattle.record_memory.specs.declared.books.Guard.{Guard}
use Rattle.record_memory.specs.declared.books.Setup.{Setup}
use Rattle.record_rule.specs.ClosedTables.{AreAllAnswered}
use Rattle.record_rule.specs.Facts.{At, ShapeFacts, CoverFacts}
use Rattle.record_rule.specs.Histories.{IsWaiting, HistoryFits}
use Rattle.record_rule.specs.Inputs.{answered_of, offer_of}
use Rattle.record_rule.proofs.Lists.{below_at, at_below, get_at, map_at}
use Rattle.record_table.specs.Closing.{closed_setup, closed_books, IsClosedBy}
use Rattle.record_table.specs.declared.closing.Closed.{Closed}
use Rattle.workload_text.specs.Limits.{calls_of_all}
use Rattle.set_api.specs.declared.answer.Answer.{Answer}
use Rattle.key_sums.specs.Balances.{answered_among}
use Rattle.set_runs.specs.Playing.{phases_of}
use Rattle.run_facts.specs.Replies.{with_replies, AreBooksReplies, ArePlays}
use Rattle.run_facts.specs.Unshared.{calls_by, HasKey, ShareNoKey, NoneIsFull}
use Rattle.run_facts.proofs.Alone.{alone_replies}
use Rattle.run_facts.proofs.Answers.{phases_add, book_has_replies}

-- an entry, as code reads it and as the rule does
pub got_at : {X : Type 0} (xs : List X) (i : ℕ) (x : X) → slice_get xs i ≡ Some x → At xs i x
got_at xs i x is = let e = at_below xs i (slice_get_within xs i x is) in e.1 ∙ ap some (sym (get_at xs i e.0 x e.1) ∙ get_or_from_slice_get xs i x x is)

pub at_got : {X : Type 0} (xs : List X) (i : ℕ) (x : X) → At xs i x → slice_get xs i ≡ Some x
at_got xs i x at = slice_get-get_or xs i x (below_at xs i x at) ∙ ap Some (get_at xs i x x at)

-- an answered call is one of the calls
key_next : (call : Call) (calls : List Call) (key : ℕ) → HasKey calls key → HasKey (call ∷ calls) key
key_next call calls key h = record { place = suc h.place; call = h.call; there = h.there; key_is = h.key_is }

key_first : (call : Call) (calls : List Call) (key : ℕ) → key_of call ≡ key → HasKey (call ∷ calls) key
key_first call calls key is = record { place = 0; call = call; there = refl; key_is = is }

key_among : (calls : List Call) (replies : List Reply) (n : ℕ) (p : Call × Reply) → At (answered_among (with_replies calls replies)) n p → HasKey calls (key_of p.0)
key_among [] replies n p at = absurd (omega (arith, below_at [] n p at))
key_among (call ∷ calls) [] n p at = absurd (omega (arith, below_at [] n p at))
key_among (call ∷ calls) (Full ∷ replies) n p at = key_next call calls (key_of p.0) (key_among calls replies n p at)
key_among (call ∷ calls) (Yes ∷ replies) zero p at = key_first call calls (key_of p.0) (ap (λ (q : Call × Reply). key_of q.0) (some-injective (call, Yes) p at))
key_among (call ∷ calls) (Yes ∷ replies) (suc n) p at = key_next call calls (key_of p.0) (key_among calls replies n p at)
key_among (call ∷ calls) (No ∷ replies) zero p at = key_first call calls (key_of p.0) (ap (λ (q : Call × Reply). key_of q.0) (some-injective (call, No) p at))
key_among (call ∷ calls) (No ∷ replies) (suc n) p at = key_next call calls (key_of p.0) (key_among calls replies n p at)

key_in_book : (phases : List (List Call)) (replies : List Reply) (book : Book) → AreBooksReplies phases replies book → (n : ℕ) (a : Answered) → At book.answered n a → HasKey (calls_of_all phases) (key_of a.call)
key_in_book phases replies book is n a at =
    let p : Call × Reply = (a.call, reply_of_answer a.reply) in
    key_among (calls_of_all phases) replies n p (subst (λ l. At l n p) is (at_map (λ (b : Answered). (b.call, reply_of_answer b.reply)) book.answered n a at))

-- the calls and the replies of some answers
abbrev calls_in : List (Call × Reply) → List Call
calls_in answers = map (λ (p : Call × Reply). p.0) answers

abbrev replies_in : List (Call × Reply) → List Reply
replies_in answers = map (λ (p : Call × Reply). p.1) answers

-- replies are legal where those but `Full` are the machine's to their calls
legal_among : (calls : List Call) (replies : List Reply) (keys : Keys) → length replies ≡ length calls → (let answers = answered_among (with_replies calls replies) in replies_of (calls_in answers) keys ≡ replies_in answers) → IsLegalRun calls replies keys
legal_among [] [] keys same told = tt
legal_among [] (r ∷ replies) keys same told = absurd (omega (arith, same))
legal_among (call ∷ calls) [] keys same told = absurd (omega (arith, same))
legal_among (call ∷ calls) (Full ∷ replies) keys same told = (tt, legal_among calls replies keys (omega (arith, same)) told)
legal_among (call ∷ calls) (Yes ∷ replies) keys same told = (sym (ap (λ (l : List Reply). get_or l 0 Full) told), legal_among calls replies (keys_after call keys) (omega (arith, same)) (ap (λ (l : List Reply). drop 1 l) told))
legal_among (call ∷ calls) (No ∷ replies) keys same told = (sym (ap (λ (l : List Reply). get_or l 0 Full) told), legal_among calls replies (keys_after call keys) (omega (arith, same)) (ap (λ (l : List Reply). drop 1 l) told))

-- and are the machine's where none is `Full`
legal_whole : (calls : List Call) (replies : List Reply) (keys : Keys) → AllByRecursion (λ reply. reply ≢ Full) replies → IsLegalRun calls replies keys → replies ≡ replies_of calls keys
legal_whole [] [] keys none legal = refl
legal_whole [] (r ∷ replies) keys none legal = elim legal [ ]
legal_whole (call ∷ calls) [] keys none legal = elim legal [ ]
legal_whole (call ∷ calls) (Full ∷ replies) keys none legal = absurd (none.0 refl)
legal_whole (call ∷ calls) (Yes ∷ replies) keys none legal = ap (λ r. r ∷ replies) legal.0 ∙ ap (λ l. reply_of call keys ∷ l) (legal_whole calls replies (keys_after call keys) none.1 legal.1)
legal_whole (call ∷ calls) (No ∷ replies) keys none legal = ap (λ r. r ∷ replies) legal.0 ∙ ap (λ l. reply_of call keys ∷ l) (legal_whole calls replies (keys_after call keys) none.1 legal.1)

-- the answered calls of a caller's book are its calls, with their replies
record HasReplies (phases : List (List Call)) (replies : List Reply) (book : Book) : Type 0 where
  all : length replies ≡ length (calls_of_all phases)
  in_book : AreBooksReplies phases replies book

module _ (s : ShapeFacts) (name : SetName) (updates : List Update) (books : List Book) (fits : HistoryFits s name updates (map answered_of books) (map offer_of books)) where
  -- in a set without helping no caller has a call open that others decide
  none_open : ¬ s.helped → AreAllAnswered books
  none_open alone d b at = none b.offer refl where
    none : (o : Option _) → b.offer ≡ o → o ≡ None
    none None is = refl
    none (Some o) is = absurd (alone (fits.offered d b.answered o (at_map answered_of books d b at) (at_map offer_of books d b at ∙ ap some is)).helped)

  none_waits : AreAllAnswered books → (i : ℕ) (u : Update) → IsWaiting s name (map offer_of books) i u → ⊥
  none_waits answered i u w =
      let b = map_at offer_of books u.caller (Some w.offer) w.at in
      let differs : None ≡ Some w.offer = sym (answered u.caller b.0 b.1) ∙ b.2 in cc

  module _ (answered : AreAllAnswered books) (lists : List (List (List Call))) (unshared : ShareNoKey lists) (replies : List (List Reply)) (same : length replies ≡ length books)
      (each : (i : ℕ) (own : List Reply) (book : Book) → At replies i own → At books i book → HasReplies (phases_of lists i) own book) where
    legal_alone : (i : ℕ) (own : List Reply) → At replies i own → IsLegalRun (calls_by lists i) own empty
    legal_alone i own here = legal_among (calls_by lists i) own empty has.all told where
      there : (book : Book) × At books i book
      there = at_below books i (subst (λ n. i < n) same (below_at replies i own here))

      book : Book
      book = there.0

      has : HasReplies (phases_of lists i) own book
      has = each i own book here there.1

      others : (d : ℕ) (other : List Answered) (n : ℕ) (a : Answered) → At (map answered_of books) d other → d ≢ i → At other n a → HasKey (calls_by lists i) (key_of a.call) → ⊥
      others d other n a at apart entry key =
          let b = map_at answered_of books d other at in
          let r = at_below replies d (subst (λ k. d < k) (sym same) (below_at books d b.0 b.1)) in
          apart (unshared d i (key_of a.call) (key_in_book (phases_of lists d) r.0 b.0 (each d r.0 b.0 r.1 b.1).in_book n a (subst (λ l. At l n a) (sym b.2) entry)) key)

      alone : replies_of (map (λ (a : Answered). a.call) book.answered) empty ≡ map (λ (a : Answered). reply_of_answer a.reply) book.answered
      alone = alone_replies (HasKey (calls_by lists i)) updates s name (map answered_of books) (map offer_of books) fits (none_waits answered) i book.answered (at_map answered_of books i book there.1) (key_in_book (phases_of lists i) own book has.in_book) others

      answers : List (Call × Reply)
      answers = answered_among (with_replies (calls_by lists i) own)

      told : replies_of (calls_in answers) empty ≡ replies_in answers
      told =
          ap (λ (l : List (Call × Reply)). replies_of (calls_in l) empty) (sym has.in_book) ∙ ap (λ (l : List Call). replies_of l empty) (map-map (λ (p : Call × Reply). p.0) (λ (a : Answered). (a.call, reply_of_answer a.reply)) book.answered) ∙ alone
          ∙ sym (map-map (λ (p : Call × Reply). p.1) (λ (a : Answered). (a.call, reply_of_answer a.reply)) book.answered) ∙ ap (λ (l : List (Call × Reply)). replies_in l) has.in_book

-- A closed table with the replies of its callers
module _ (s : ShapeFacts) (c : CoverFacts) (closed : Closed) (fits : IsClosedBy s c closed) where
  pub unhelped_answered : ¬ s.helped → AreAllAnswered (closed_books closed)
  unhelped_answered = none_open s (closed_setup closed).set _ (closed_books closed) fits.whole.fits

  module _ (answered : AreAllAnswered (closed_books closed)) {steps : Call → ℕ → Answer → Book → Book → Type 0} {budget : ℕ} {setup : Setup} {first : Guard} {bounds : List ℕ} (lists : List (List (List Call))) (replies : List (List Reply))
      (same : length replies ≡ length (closed_books closed)) (plays : ArePlays steps budget setup first lists replies bounds (closed_books closed)) (unshared : ShareNoKey lists) where
    has_replies : (i : ℕ) (own : List Reply) (book : Book) → At replies i own → At (closed_books closed) i book → HasReplies (phases_of lists i) own book
    has_replies i own book here there =
        let p = plays i own book (at_got replies i own here) (at_got (closed_books closed) i book there) in
        record { all = (phases_add p.played).0; in_book = book_has_replies p }

    -- The replies but `Full` are those of a set that the caller has to itself, on which a call that found no record changes nothing
    pub legal_runs : (i : ℕ) (own : List Reply) → slice_get replies i ≡ Some own → IsLegalRun (calls_by lists i) own empty
    legal_runs i own here = legal_alone s (closed_setup closed).set _ (closed_books closed) fits.whole.fits answered lists unshared replies same has_replies i own (got_at replies i own here)

    -- so a caller that found a record whenever it needed one is told what it would be told alone
    pub alone_runs : (i : ℕ) (own : List Reply) → slice_get replies i ≡ Some own → NoneIsFull own → own ≡ replies_of (calls_by lists i) empty
    alone_runs i own here none = legal_whole (calls_by lists i) own empty (recursion_from_All (λ reply. reply ≢ Full) own none) (legal_runs i own here)
