-- Where callers share no key, each is answered what it would be answered alone: of the keys of one caller the set holds, at each of its calls,
-- what the calls of this caller before leave.
use Rattle.std.proofs.Common.{◌≡◌, ◌≢◌, ℕ, zero, suc, ◌+◌, ◌-◌, ◌<◌, ◌≤◌, ◌⊎◌, inl, inr, ⊎_elim, Bool, true, false, not, ◌||◌, ◌&&◌, eqb, ne_eqb, refl, sym, ap, ◌∙◌, subst, arith, add-one}
use Rattle.std.proofs.Common.{List, [], ◌∷◌, ◌++◌, length, map, take, drop, Option}
use Rattle.std.proofs.Math.Seq.{take-suc, drop-cons}
use Rattle.std.proofs.lemmas.Bool.Decides.{eqb_tells}
use Rattle.std.proofs.lemmas.Bool.{true≢false}
use Rattle.std.proofs.lemmas.List.{map-append, drop_all}
use Rattle.set_model.specs.declared.calls.Call.{Call}
use Rattle.set_model.specs.declared.calls.Call.TheVariants.{Insert, Remove, Search}
use Rattle.set_model.specs.declared.calls.Reply.{Reply}
use Rattle.set_model.specs.declared.calls.Reply.TheVariants.{Yes, No, Full}
use Rattle.set_model.specs.declared.calls.Update.{Update}
use Rattle.set_model.specs.declared.names.SetName.{SetName}
use Rattle.set_model.specs.Keys.{Keys, contains, empty}
use Rattle.set_model.specs.Machine.{key_of, answer_of, keys_after, keys_after_all, reply_of_answer, replies_of}
use Rattle.set_model.specs.Histories.{call_of, keys_of, IsRead}
use Rattle.set_model.proofs.KeySets.{contains-insert, contains-remove}
use Rattle.record_memory.specs.declared.books.Answered.{Answered}
use Rattle.record_memory.specs.declared.books.Offer.{Offer}
use Rattle.record_rule.specs.Facts.{At, ShapeFacts}
use Rattle.record_rule.specs.Histories.{before, after, after_by, IsUpdate, IsPlaced, IsExplained, IsAnswered, IsWaiting, HistoryFits}
use Rattle.record_rule.proofs.Lists.{below_at, at_below, get_at, one_at}
use Rattle.key_sums.proofs.TallyBalance.{of_keys, tells_keys}

-- an answer goes by whether the call's key is there
pub same_answer : (call : Call) (s t : Keys) → contains s (key_of call) ≡ contains t (key_of call) → answer_of call s ≡ answer_of call t
same_answer (Insert key) s t same = ap not same
same_answer (Remove key) s t same = same
same_answer (Search key) s t same = same

-- a call on another key leaves a key as it was
pub left_alone : (key : ℕ) (call : Call) (keys : Keys) → key ≢ key_of call → contains (keys_after call keys) key ≡ contains keys key
left_alone key (Insert added) keys other = contains-insert keys added key ∙ ap (λ b. b || contains keys key) (ne_eqb key added other)
left_alone key (Remove gone) keys other = contains-remove keys gone key ∙ ap (λ b. not b && contains keys key) (ne_eqb key gone other)
left_alone key (Search wanted) keys other = refl

-- a call that changed nothing leaves all keys as they were
here_or_there : (key other : ℕ) (b c : Bool) → (key ≡ other → c ≡ true) → (eqb key other || c) ≡ c
here_or_there key other b c there = ⊎_elim (λ e. ap (λ x. x || c) e.0 ∙ sym (there e.1)) (λ e. ap (λ x. x || c) e.0) (eqb_tells key other)

gone_or_there : (key other : ℕ) (c : Bool) → (key ≡ other → c ≡ false) → (not (eqb key other) && c) ≡ c
gone_or_there key other c gone = ⊎_elim (λ e. ap (λ x. not x && c) e.0 ∙ sym (gone e.1)) (λ e. ap (λ x. not x && c) e.0) (eqb_tells key other)

abbrev is_yes : Reply → Bool
is_yes Yes = true
is_yes No = false
is_yes Full = false

yes_of : (r : Bool) → is_yes (reply_of_answer r) ≡ r
yes_of true = refl
yes_of false = refl

no_reply : (r : Bool) → reply_of_answer r ≡ No → r ≡ false
no_reply r e = sym (yes_of r) ∙ ap is_yes e

was_there : (b : Bool) → false ≡ not b → b ≡ true
was_there true e = refl
was_there false e = e

read_keeps : (call : Call) (keys : Keys) (r : Bool) → IsRead call (reply_of_answer r) → r ≡ answer_of call keys → (key : ℕ) → contains (keys_after call keys) key ≡ contains keys key
read_keeps (Insert added) keys r read told key =
    contains-insert keys added key ∙ here_or_there key added true (contains keys key) (λ e. ap (contains keys) e ∙ was_there (contains keys added) (sym (no_reply r read) ∙ told))
read_keeps (Remove gone) keys r read told key =
    contains-remove keys gone key ∙ gone_or_there key gone (contains keys key) (λ e. ap (contains keys) e ∙ sym told ∙ no_reply r read)
read_keeps (Search wanted) keys r read told key = refl

-- calls one after another
all_but_last : (calls : List Call) (call : Call) (keys : Keys) → keys_after_all (calls ++ call ∷ []) keys ≡ keys_after call (keys_after_all calls keys)
all_but_last [] call keys = refl
all_but_last (c ∷ calls) call keys = all_but_last calls call (keys_after c keys)

no_earlier : (decided : Bool) (p : ℕ) → p ≤ after_by decided p
no_earlier true p = omega arith
no_earlier false p = omega arith

less_or_more : (m k : ℕ) → (m < k) ⊎ (k ≤ m)
less_or_more m zero = inr (omega arith)
less_or_more zero (suc k) = inl (omega arith)
less_or_more (suc m) (suc k) = ⊎_elim (λ h. inl (omega (arith, h))) (λ h. inr (omega (arith, h))) (less_or_more m k)

module _ (P : ℕ → Type 0) where
  -- two sets have the same of these keys
  abbrev pub Agree : Keys → Keys → Type 0
  Agree s t = (key : ℕ) → P key → contains s key ≡ contains t key

  pub agree_after : (call : Call) (s t : Keys) → Agree s t → Agree (keys_after call s) (keys_after call t)
  agree_after (Insert added) s t same = λ key own. contains-insert s added key ∙ ap (λ b. eqb key added || b) (same key own) ∙ sym (contains-insert t added key)
  agree_after (Remove gone) s t same = λ key own. contains-remove s gone key ∙ ap (λ b. not (eqb key gone) && b) (same key own) ∙ sym (contains-remove t gone key)
  agree_after (Search key) s t same = same

  module _ (updates : List Update) where
    abbrev set_at : ℕ → Keys
    set_at q = keys_of (take q updates)

    set_next : (q : ℕ) (u : Update) → At updates q u → set_at (q + 1) ≡ keys_after (call_of u) (set_at q)
    set_next q u at =
        ap keys_of (ap (λ n. take n updates) (add-one q) ∙ take-suc updates q u (below_at updates q u at)) ∙ ap (λ (x : Update). keys_of (take q updates ++ x ∷ [])) (get_at updates q u u at)
        ∙ ap (λ (l : List Call). keys_after_all l empty) (map-append call_of (take q updates) (u ∷ [])) ∙ all_but_last (map call_of (take q updates)) (call_of u) empty

    -- updates of other keys change nothing of these
    between : (p n : ℕ) → p + n ≤ length updates → ((i : ℕ) (u : Update) → At updates i u → p ≤ i → i < p + n → P (key_of (call_of u)) → ⊥) → Agree (set_at (p + n)) (set_at p)
    between p zero within others = λ key own. ap (λ (q : ℕ). contains (set_at q) key) (omega arith)
    between p (suc n) within others =
        let u = at_below updates (p + n) (omega (arith, within)) in
        λ key own. ap (λ (q : ℕ). contains (set_at q) key) (let e : p + suc n ≡ (p + n) + 1 = omega arith in e) ∙ ap (λ (s : Keys). contains s key) (set_next (p + n) u.0 u.1)
        ∙ left_alone key (call_of u.0) (set_at (p + n)) (λ same. others (p + n) u.0 u.1 (omega arith) (omega arith) (subst P same own))
        ∙ between p n (omega (arith, within)) (λ i v at from to. others i v at from (omega (arith, to))) key own

    module _ (s : ShapeFacts) (name : SetName) (books : List (List Answered)) (offers : List (Option Offer)) (fits : HistoryFits s name updates books offers) (none_waits : (i : ℕ) (u : Update) → IsWaiting s name offers i u → ⊥)
        (c : ℕ) (book : List Answered) (at_book : At books c book) (own : (n : ℕ) (a : Answered) → At book n a → P (key_of a.call)) (others : (d : ℕ) (other : List Answered) (n : ℕ) (a : Answered) → At books d other → d ≢ c → At other n a → P (key_of a.call) → ⊥) where
      -- an update of one of these keys is a call of this caller's
      mine : (i : ℕ) (u : Update) → At updates i u → P (key_of (call_of u)) → (n : ℕ) × (a : Answered) × At book n a × (a.decided ≡ true) × (a.position ≡ i)
      mine i u at key = ⊎_elim told (λ w. absurd (none_waits i u w)) (fits.answered i u at) where
        told : IsAnswered s name updates books i u → (n : ℕ) × (a : Answered) × At book n a × (a.decided ≡ true) × (a.position ≡ i)
        told t =
            let is : IsUpdate s name updates u.caller (u.number - 1) t.entry = subst (λ b. IsExplained s name b updates u.caller (u.number - 1) t.entry) t.decided (fits.explained u.caller t.book t.at (u.number - 1) t.entry t.there) in
            let same : is.update ≡ u = one_at updates i is.update u (subst (λ n. At updates n is.update) t.position is.at) at in
            let call : call_of u ≡ t.entry.call = sym (ap call_of same) ∙ is.call in
            ⊎_elim (λ e. (u.number - 1, t.entry, subst (λ b. At b (u.number - 1) t.entry) (one_at books c t.book book (subst (λ d. At books d t.book) e.1 t.at) at_book) t.there, t.decided, t.position))
            (λ e. absurd (others u.caller t.book (u.number - 1) t.entry t.at e.1 t.there (subst (λ x. P (key_of x)) call key))) (eqb_tells u.caller c)

      -- between two places of the history with no decided call of this caller's nothing changes of its keys
      quiet : (p n : ℕ) → p + n ≤ length updates → ((m : ℕ) (a : Answered) → At book m a → a.decided ≡ true → p ≤ a.position → a.position < p + n → ⊥) → Agree (set_at (p + n)) (set_at p)
      quiet p n within none = between p n within (λ i u at from to key. let m = mine i u at key in none m.0 m.1 m.2 m.3 (subst (λ x. p ≤ x) (sym m.4) from) (subst (λ x. x < p + n) (sym m.4) to))

      -- what the first calls of this caller leave, alone
      abbrev alone : ℕ → Keys
      alone k = keys_after_all (map (λ (a : Answered). a.call) (take k book)) empty

      alone_next : (k : ℕ) (a : Answered) → At book k a → alone (k + 1) ≡ keys_after a.call (alone k)
      alone_next k a at =
          ap (λ (l : List Answered). keys_after_all (map (λ (b : Answered). b.call) l) empty) (ap (λ n. take n book) (add-one k) ∙ take-suc book k a (below_at book k a at) ∙ ap (λ (x : Answered). take k book ++ x ∷ []) (get_at book k a a at))
          ∙ ap (λ (l : List Call). keys_after_all l empty) (map-append (λ (b : Answered). b.call) (take k book) (a ∷ [])) ∙ all_but_last (map (λ (b : Answered). b.call) (take k book)) a.call empty

      -- a call's place is in the history
      place_within : (k : ℕ) (a : Answered) → At book k a → after a ≤ length updates
      place_within k a at = by a.decided refl where
        by : (b : Bool) → a.decided ≡ b → after a ≤ length updates
        by true e = subst (λ b. after_by b a.position ≤ length updates) (sym e) (let is : IsUpdate s name updates c k a = subst (λ b. IsExplained s name b updates c k a) e (fits.explained c book at_book k a at) in omega (arith, below_at updates a.position is.update is.at))
        by false e = subst (λ b. after_by b a.position ≤ length updates) (sym e) (let is : IsPlaced s name updates a = subst (λ b. IsExplained s name b updates c k a) e (fits.explained c book at_book k a at) in is.within)

      -- the first calls of this caller come before a place of the history, and the others behind it
      abbrev Precede : ℕ → ℕ → Type 0
      Precede k q = (n : ℕ) (b : Answered) → At book n b → n < k → after b ≤ q

      abbrev Follow : ℕ → ℕ → Type 0
      Follow k q = (n : ℕ) (b : Answered) → At book n b → k ≤ n → q ≤ before b

      -- the calls before one are placed behind it, and those after ahead
      behind_place : (k : ℕ) (a : Answered) → At book k a → Precede k a.position
      behind_place k a at n b there less = fits.ordered c book at_book n k b a there at less

      ahead_place : (k : ℕ) (a : Answered) → At book k a → Follow k a.position
      ahead_place k a at n b there more =
          ⊎_elim (λ e. subst (λ (x : Answered). a.position ≤ x.position) (one_at book k a b at (subst (λ j. At book j b) e.1 there)) (omega arith))
          (λ e. omega (arith, no_earlier a.decided a.position, fits.ordered c book at_book k n a b at there (let y : n ≢ k = e.1 in omega (arith, more, y)))) (eqb_tells n k)

      -- one call more
      agree_step : (k q : ℕ) (a : Answered) → At book k a → Agree (set_at a.position) (alone k) → q ≤ length updates → Precede (suc k) q → Follow (suc k) q → Agree (set_at q) (alone (suc k))
      agree_step k q a at_k prev within behind ahead = by a.decided refl where
        past : (m : ℕ) (b : Answered) → At book m b → b.decided ≡ true → a.position ≤ b.position → (m ≡ k → ⊥) → b.position < q → ⊥
        past m b at decided from other to =
            ⊎_elim (λ less. let x = subst (λ d. after_by d b.position ≤ a.position) decided (fits.ordered c book at_book m k b a at at_k less) in omega (arith, x, from)) (λ more. omega (arith, ahead m b at (let y : m ≢ k = other in omega (arith, more, y)), to)) (less_or_more m k)

        next : alone (suc k) ≡ keys_after a.call (alone k)
        next = ap alone (sym (add-one k)) ∙ alone_next k a at_k

        by : (d : Bool) → a.decided ≡ d → Agree (set_at q) (alone (suc k))
        by true is =
            let u : IsUpdate s name updates c k a = subst (λ b. IsExplained s name b updates c k a) is (fits.explained c book at_book k a at_k) in
            let here : a.position + 1 ≤ q = subst (λ d. after_by d a.position ≤ q) is (behind k a at_k (omega arith)) in
            let whole : (a.position + 1) + (q - (a.position + 1)) ≡ q = omega (arith, here) in
            let place : (b : Answered) → At book k b → b.position ≡ a.position = λ b at. ap (λ (x : Answered). x.position) (one_at book k b a at at_k) in
            let rest = quiet (a.position + 1) (q - (a.position + 1)) (omega (arith, whole, within))
            (λ m b at decided from to. past m b at decided (omega (arith, from)) (λ same. omega (arith, place b (subst (λ j. At book j b) same at), from)) (omega (arith, to, whole))) in
            λ key mine_too. ap (λ x. contains (set_at x) key) (sym whole) ∙ rest key mine_too
            ∙ ap (λ (keys : Keys). contains keys key) (set_next a.position u.update u.at ∙ ap (λ (call : Call). keys_after call (set_at a.position)) u.call) ∙ agree_after a.call (set_at a.position) (alone k) prev key mine_too ∙ ap (λ (keys : Keys). contains keys key) (sym next)
        by false is =
            let placed : IsPlaced s name updates a = subst (λ b. IsExplained s name b updates c k a) is (fits.explained c book at_book k a at_k) in
            let told = tells_keys name (take a.position updates) a.call a.reply placed.answered in
            let here : a.position ≤ q = subst (λ d. after_by d a.position ≤ q) is (behind k a at_k (omega arith)) in
            let whole : a.position + (q - a.position) ≡ q = omega (arith, here) in
            let undecided : (b : Answered) → At book k b → b.decided ≡ false = λ b at. ap (λ (x : Answered). x.decided) (one_at book k b a at at_k) ∙ is in
            let rest = quiet a.position (q - a.position) (omega (arith, whole, within))
            (λ m b at decided from to. past m b at decided from (λ same. true≢false (sym decided ∙ undecided b (subst (λ j. At book j b) same at))) (omega (arith, to, whole))) in
            let reply : a.reply ≡ answer_of a.call (alone k) = told.1 ∙ same_answer a.call (set_at a.position) (alone k) (prev (key_of a.call) (own k a at_k)) in
            λ key mine_too. ap (λ x. contains (set_at x) key) (sym whole) ∙ rest key mine_too ∙ prev key mine_too ∙ sym (read_keeps a.call (alone k) a.reply told.0 reply key) ∙ ap (λ (keys : Keys). contains keys key) (sym next)

      -- at a place behind the first calls and before the others the set holds of this caller's keys what those leave
      agree_at : (k q : ℕ) → k ≤ length book → q ≤ length updates → Precede k q → Follow k q → Agree (set_at q) (alone k)
      agree_at zero q few within behind ahead =
          subst (λ x. Agree (set_at x) (set_at 0)) (let z : 0 + q ≡ q = omega arith in z) (quiet 0 q (omega (arith, within)) (λ m a at decided from to. omega (arith, ahead m a at (omega arith), to)))
      agree_at (suc k) q few within behind ahead =
          let e = at_below book k (omega (arith, few)) in
          let a = e.0 in
          agree_step k q a e.1 (agree_at k a.position (omega (arith, few)) (omega (arith, place_within k a e.1, no_earlier a.decided a.position)) (behind_place k a e.1) (ahead_place k a e.1)) within behind ahead

      -- so each call is told what it would be told alone
      told_alone : (k : ℕ) (a : Answered) → At book k a → a.reply ≡ answer_of a.call (alone k)
      told_alone k a at = by a.decided refl where
        agree : Agree (set_at a.position) (alone k)
        agree = agree_at k a.position (omega (arith, below_at book k a at)) (omega (arith, place_within k a at, no_earlier a.decided a.position)) (behind_place k a at) (ahead_place k a at)

        by : (d : Bool) → a.decided ≡ d → a.reply ≡ answer_of a.call (alone k)
        by true is =
            let u : IsUpdate s name updates c k a = subst (λ b. IsExplained s name b updates c k a) is (fits.explained c book at_book k a at) in
            u.yes ∙ sym (of_keys name (take a.position updates) u.update (fits.lawful a.position u.update u.at)) ∙ ap (λ (call : Call). answer_of call (set_at a.position)) u.call ∙ same_answer a.call (set_at a.position) (alone k) (agree (key_of a.call) (own k a at))
        by false is =
            let placed : IsPlaced s name updates a = subst (λ b. IsExplained s name b updates c k a) is (fits.explained c book at_book k a at) in
            (tells_keys name (take a.position updates) a.call a.reply placed.answered).1 ∙ same_answer a.call (set_at a.position) (alone k) (agree (key_of a.call) (own k a at))

      replies_from : (m k : ℕ) → k + m ≡ length book → replies_of (map (λ (a : Answered). a.call) (drop k book)) (alone k) ≡ map (λ (a : Answered). reply_of_answer a.reply) (drop k book)
      replies_from zero k all =
          let none : drop k book ≡ [] = drop_all k book (omega (arith, all)) in
          ap (λ (l : List Answered). replies_of (map (λ (a : Answered). a.call) l) (alone k)) none ∙ ap (map (λ (a : Answered). reply_of_answer a.reply)) (sym none)
      replies_from (suc m) k all =
          let e = at_below book k (omega (arith, all)) in
          let a = e.0 in
          let first : drop k book ≡ a ∷ drop (suc k) book = drop-cons book k a (below_at book k a e.1) ∙ ap (λ (x : Answered). x ∷ drop (suc k) book) (get_at book k a a e.1) in
          let later = replies_from m (suc k) (omega (arith, all)) in
          ap (λ (l : List Answered). replies_of (map (λ (b : Answered). b.call) l) (alone k)) first
          ∙ ap (λ (x : Reply). x ∷ replies_of (map (λ (b : Answered). b.call) (drop (suc k) book)) (keys_after a.call (alone k))) (ap reply_of_answer (sym (told_alone k a e.1)))
          ∙ ap (λ (keys : Keys). reply_of_answer a.reply ∷ replies_of (map (λ (b : Answered). b.call) (drop (suc k) book)) keys) (sym (alone_next k a e.1) ∙ ap alone (add-one k))
          ∙ ap (λ (l : List Reply). reply_of_answer a.reply ∷ l) later ∙ ap (map (λ (b : Answered). reply_of_answer b.reply)) (sym first)

      pub alone_replies : replies_of (map (λ (a : Answered). a.call) book) empty ≡ map (λ (a : Answered). reply_of_answer a.reply) book
      alone_replies = replies_from (length book) 0 (omega arith)
