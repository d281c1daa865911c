-- Each update of a closed table's history is an answered call of its caller's, so tallies of all callers add up to what the history leaves.
use Rattle.std.proofs.Common.{◌≡◌, ◌≢◌, ℕ, zero, suc, ◌-◌, ◌<◌, ◌⊎◌, List, [], ◌∷◌, map, length, get_or, take, sum, sum_by, Bool, true, false, Some, inl, inr, ⊎_elim, sym, refl, ap, ◌∙◌, subst, arith}
use Rattle.std.proofs.lemmas.List.Sums.{sum_by-cons}
use Rattle.atomic_table.proofs.Lists.{at_map}
use Rattle.set_model.specs.declared.calls.Call.{Call}
use Rattle.set_model.specs.declared.calls.Reply.{Reply}
use Rattle.set_model.specs.declared.calls.Reply.TheVariants.{Yes, No, Full}
use Rattle.set_model.specs.declared.calls.Update.{Update}
use Rattle.set_model.specs.declared.names.SetName.{SetName}
use Rattle.set_model.specs.declared.names.SetName.TheVariants.{Plain, Michael, Lazy}
use Rattle.set_model.specs.Keys.{Keys}
use Rattle.set_model.specs.Machine.{answer_of, keys_after, keys_after_all, reply_of_answer}
use Rattle.set_model.specs.Histories.{call_of, IsLegalFrom, IsRead}
use Rattle.record_memory.specs.declared.books.Answered.{Answered}
use Rattle.record_memory.specs.declared.books.Book.{Book}
use Rattle.record_rule.specs.Facts.{At, ShapeFacts}
use Rattle.record_rule.specs.Inputs.{answered_of, offer_of}
use Rattle.record_rule.specs.Machines.{legal_for, replies_for, set_legal, set_replies}
use Rattle.record_rule.specs.Histories.{IsUpdate, IsExplained, IsAnswered, IsWaiting, HistoryFits}
use Rattle.record_rule.proofs.Lists.{below_at, get_at, one_at, map_at}
use Rattle.key_sums.specs.declared.tallies.Tally.{Tally}
use Rattle.key_sums.specs.Tallies.{IsTallyOf}
use Rattle.key_sums.specs.Balances.{answered_among, answers_in, IsTallyOfBook}
use Rattle.key_sums.proofs.GridSums.{cell, AreCells, added_by_rows}

-- what is read is an entry or the default
read_or : {A : Type 0} (l : List A) (i : ℕ) (d : A) → ((a : A) × At l i a) ⊎ (get_or l i d ≡ d)
read_or [] i d = inr refl
read_or (x ∷ l) zero d = inl (x, refl)
read_or (x ∷ l) (suc i) d = read_or l i d

-- what each update may follow makes the history legal
pub legal_from : (updates : List Update) (keys : Keys) → ((i : ℕ) (u : Update) → At updates i u → answer_of (call_of u) (keys_after_all (map call_of (take i updates)) keys) ≡ true) → IsLegalFrom updates keys
legal_from [] keys each = tt
legal_from (u ∷ updates) keys each = (each 0 u refl, legal_from updates (keys_after (call_of u) keys) (λ i v at. each (suc i) v at))

-- each set so far is one of keys
pub of_keys : (name : SetName) (updates : List Update) (u : Update) → legal_for name updates u → set_legal updates u
of_keys Plain updates u legal = legal
of_keys Michael updates u legal = legal
of_keys Lazy updates u legal = legal

pub tells_keys : (name : SetName) (updates : List Update) (call : Call) (r : Bool) → replies_for name updates call r → set_replies updates call r
tells_keys Plain updates call r told = told
tells_keys Michael updates call r told = told
tells_keys Lazy updates call r told = told

-- a number for each answered call, which is 0 where it changed nothing
pub record IsWeight (w : Call × Reply → ℕ) (f : Update → ℕ) : Type 0 where
  pub full : (call : Call) → w (call, Full) ≡ 0
  pub reads : (call : Call) (reply : Reply) → IsRead call reply → w (call, reply) ≡ 0
  pub updates : (u : Update) → f u ≡ w (call_of u, Yes)

module _ (w : Call × Reply → ℕ) where
  abbrev weight : Answered → ℕ
  weight a = w (a.call, reply_of_answer a.reply)

  abbrev grid : List (List Answered) → List (List ℕ)
  grid books = map (map weight) books

  -- calls that found no record left weigh nothing
  among : ((call : Call) → w (call, Full) ≡ 0) → (answers : List (Call × Reply)) → sum_by w (answered_among answers) ≡ sum_by w answers
  among full [] = refl
  among full ((call, Full) ∷ answers) = omega (arith, full call, sum_by-cons w (call, Full) answers, among full answers)
  among full ((call, Yes) ∷ answers) = omega (arith, sum_by-cons w (call, Yes) answers, sum_by-cons w (call, Yes) (answered_among answers), among full answers)
  among full ((call, No) ∷ answers) = omega (arith, sum_by-cons w (call, No) answers, sum_by-cons w (call, No) (answered_among answers), among full answers)

  row_sum : (answered : List Answered) → sum (map weight answered) ≡ sum_by w (answers_in answered)
  row_sum [] = refl
  row_sum (a ∷ answered) = omega (arith, sum_by-cons (λ (n : ℕ). n) (weight a) (map weight answered), sum_by-cons w (a.call, reply_of_answer a.reply) (answers_in answered), row_sum answered)

  -- so what the tallies count is what the books hold
  pub tallied : (field : Tally → ℕ) → ((call : Call) → w (call, Full) ≡ 0) → ((t : Tally) (answers : List (Call × Reply)) → IsTallyOf t answers → field t ≡ sum_by w answers) → (tallies : List Tally) (books : List Book) → length tallies ≡ length books
      → ((d : ℕ) (t : Tally) (b : Book) → At tallies d t → At books d b → IsTallyOfBook t b) → sum_by field tallies ≡ sum_by sum (grid (map answered_of books))
  tallied field full counts [] [] many each = refl
  tallied field full counts [] (b ∷ books) many each = absurd (omega (arith, many))
  tallied field full counts (t ∷ tallies) [] many each = absurd (omega (arith, many))
  tallied field full counts (t ∷ tallies) (b ∷ books) many each =
      let is = each 0 t b refl refl in
      let here : field t ≡ sum (map weight b.answered) = counts t is.answers is.tally ∙ sym (among full is.answers) ∙ ap (sum_by w) is.answered ∙ sym (row_sum b.answered) in
      omega (
        arith,
        here,
        sum_by-cons field t tallies,
        sum_by-cons sum (map weight b.answered) (grid (map answered_of books)),
        tallied field full counts tallies books (omega (arith, many)) (λ d s c at too. each (suc d) s c at too),
      )

  module _ (f : Update → ℕ) (is : IsWeight w f) (s : ShapeFacts) (unhelped : ¬ s.helped) (name : SetName) (updates : List Update) (books : List Book) (h : HistoryFits s name updates (map answered_of books) (map offer_of books)) where
    abbrev answered : List (List Answered)
    answered = map answered_of books

    -- no call is open that others decide
    none_waits : (i : ℕ) (u : Update) → IsWaiting s name (map offer_of books) i u → ⊥
    none_waits i u waits =
        let b = map_at offer_of books u.caller (Some waits.offer) waits.at in
        unhelped (h.offered u.caller b.0.answered waits.offer (at_map answered_of books u.caller b.0 b.1) waits.at).helped

    entry : (i : ℕ) (u : Update) → At updates i u → IsAnswered s name updates answered i u
    entry i u at = ⊎_elim (λ e. e) (λ waits. absurd (none_waits i u waits)) (h.answered i u at)

    row_at : (c : ℕ) (book : List Answered) → At answered c book → get_or (grid answered) c [] ≡ map weight book
    row_at c book at = get_at (grid answered) c (map weight book) [] (at_map (map weight) answered c book at)

    -- the call of an update is what its caller's book says
    weighs : (i : ℕ) (u : Update) (at : At updates i u) (e : IsAnswered s name updates answered i u) → weight e.entry ≡ f u
    weighs i u at e =
        let was : IsUpdate s name updates u.caller (u.number - 1) e.entry =
        subst (λ (b : Bool). IsExplained s name b updates u.caller (u.number - 1) e.entry) e.decided (h.explained u.caller e.book e.at (u.number - 1) e.entry e.there) in
        let same : was.update ≡ u = one_at updates i was.update u (subst (λ (n : ℕ). At updates n was.update) e.position was.at) at in
        let call : e.entry.call ≡ call_of u = sym was.call ∙ ap call_of same in
        (λ k. w (call k, reply_of_answer (was.yes k))) ∙ sym (is.updates u)

    decides : (c n : ℕ) (a : Answered) → (d : Bool) → IsExplained s name d updates c n a → weight a ≢ 0 → (i : ℕ) × (u : Update) × At updates i u × (u.caller ≡ c) × (u.number - 1 ≡ n)
    decides c n a true was some = (a.position, was.update, was.at, was.caller, omega (arith, was.number))
    decides c n a false was some = absurd (some (is.reads a.call (reply_of_answer a.reply) (tells_keys name (take a.position updates) a.call a.reply was.answered).0))

    -- what weighs something is an update
    found : (c n : ℕ) → cell (grid answered) c n ≢ 0 → (i : ℕ) × (u : Update) × At updates i u × (u.caller ≡ c) × (u.number - 1 ≡ n)
    found c n some = ⊎_elim
        (λ x. let book = map_at (map weight) answered c x.0 x.1 in in_row book.0 book.1)
        (λ none. absurd (some (ap (λ (l : List ℕ). get_or l n 0) none)))
        (read_or (grid answered) c [])
      where
        in_row : (book : List Answered) → At answered c book → (i : ℕ) × (u : Update) × At updates i u × (u.caller ≡ c) × (u.number - 1 ≡ n)
        in_row book at = ⊎_elim
            (λ x. let a = map_at weight book n x.0 x.1 in
            decides c n a.0 a.0.decided (h.explained c book at n a.0 a.1) (λ none. some (ap (λ (l : List ℕ). get_or l n 0) (row_at c book at) ∙ get_at (map weight book) n x.0 0 x.1 ∙ sym a.2 ∙ none)))
            (λ none. absurd (some (ap (λ (l : List ℕ). get_or l n 0) (row_at c book at) ∙ none)))
            (read_or (map weight book) n 0)

    cells : AreCells f (λ (u : Update). u.caller) (λ (u : Update). u.number - 1) updates (grid answered)
    cells = record {
      within = λ i u at. let e = entry i u at in (
        below_at (grid answered) u.caller (map weight e.book) (at_map (map weight) answered u.caller e.book e.at),
        subst (λ (l : List ℕ). u.number - 1 < length l) (sym (row_at u.caller e.book e.at)) (below_at (map weight e.book) (u.number - 1) (weight e.entry) (at_map weight e.book (u.number - 1) e.entry e.there)),
      );
      here = λ i u at. let e = entry i u at in
          ap (λ (l : List ℕ). get_or l (u.number - 1) 0) (row_at u.caller e.book e.at) ∙ get_at (map weight e.book) (u.number - 1) (weight e.entry) 0 (at_map weight e.book (u.number - 1) e.entry e.there) ∙ weighs i u at e;
      apart = λ i j u v at too same place. h.once i j u v at too same (omega (arith, place, (entry i u at).some_number, (entry j v too).some_number));
      all = found;
    }

    -- so the numbers of the updates add up to those of the books
    pub added_up : sum_by f updates ≡ sum_by sum (grid answered)
    added_up = added_by_rows f (λ (u : Update). u.caller) (λ (u : Update). u.number - 1) updates (grid answered) cells
