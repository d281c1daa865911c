-- How writings follow one another.
use Rattle.std.proofs.Common.{◌≡◌, ℕ, Bool, true, false, List, [], ◌++◌, take, drop, Option, sym, ap, ◌∙◌, refl, append_assoc, append-nil, arith}
use Rattle.std.proofs.lemmas.Bool.{false≢true}
use Rattle.outside.specs.Faults.{Rose, one_more}
use Rattle.std.proofs.lemmas.List.{take-append-drop}
use Rattle.outside.specs.Bytes.{with_back, with_back-append}
use Rattle.report_text.specs.Writing.{Wrote, WroteUpTo, WrotePart, Prints}

-- a count with one more rose
pub one_more-rises : (before after : ℕ) → after ≡ one_more before → Rose before after
one_more-rises before after is = λ below. grind (arith, is, below)

module _ {K : Type 0} (got : K → Option (List ℕ)) where
  pub Wrote-then : (a b c : K) (x y : List ℕ) → Wrote got a b x → Wrote got b c y → Wrote got a c (x ++ y)
  Wrote-then a b c x y first second = second ∙ ap (λ o. with_back o y) first ∙ sym (with_back-append (got a) x y)

  -- a piece of the rest was written, too
  pub WroteUpTo-piece : (a b c : K) {text : List ℕ} (piece rest : List ℕ) → WroteUpTo got a b text (piece ++ rest) → Wrote got b c piece → WroteUpTo got a c text rest
  WroteUpTo-piece a b c piece rest w next = record {
    front = w.front ++ piece;
    split = w.split ∙ sym (append_assoc w.front piece rest);
    wrote = Wrote-then a b c w.front piece w.wrote next;
  }

  pub WroteUpTo-take : (a b c : K) {text rest : List ℕ} (n : ℕ) → WroteUpTo got a b text rest → Wrote got b c (take n rest) → WroteUpTo got a c text (drop n rest)
  WroteUpTo-take a b c {text = text} {rest = rest} n w next =
      WroteUpTo-piece a b c (take n rest) (drop n rest) (record { front = w.front; split = w.split ∙ ap (λ xs. w.front ++ xs) (sym (take-append-drop n rest)); wrote = w.wrote }) next

  module _ (faults : K → ℕ) where
    -- what waited was written
    pub Prints-flushed : (a b c : K) {failed : Bool} {waiting text : List ℕ} → failed ≡ false → Prints got faults a b failed waiting text → Wrote got b c waiting → faults c ≡ faults b → Prints got faults a c false [] text
    Prints-flushed a b c {waiting = waiting} {text = text} good p wrote kept =
        let all = p.waits good ∙ sym (append-nil waiting) in
        let up : WroteUpTo got a b text (waiting ++ []) = rw (← all) p.wrote in
        record {
          rest = [];
          wrote = WroteUpTo-piece a b c waiting [] up wrote;
          waits = λ _. refl;
          kept = λ _. kept ∙ p.kept good;
          counted = λ bad. absurd (false≢true bad);
        }

    -- a put of what waited failed
    pub Prints-fails : (a b c : K) {failed : Bool} {waiting text : List ℕ} → failed ≡ false → Prints got faults a b failed waiting text → WrotePart got b c waiting → faults c ≡ one_more (faults b) → Prints got faults a c true [] text
    Prints-fails a b c {text = text} good p part counted =
        let whole = p.waits good ∙ part.1.split in
        let up : WroteUpTo got a b text (part.1.front ++ part.0) = rw (← whole) p.wrote in
        record {
          rest = part.0;
          wrote = WroteUpTo-piece a b c part.1.front part.0 up part.1.wrote;
          waits = λ clean. absurd (false≢true (sym clean));
          kept = λ clean. absurd (false≢true (sym clean));
          counted = λ _. counted ∙ ap one_more (p.kept good);
        }

    -- after a put that failed, what waits doesn't matter
    pub Prints-dropped : (a b : K) {waiting text : List ℕ} (others : List ℕ) → Prints got faults a b true waiting text → Prints got faults a b true others text
    Prints-dropped a b others p = record {
      rest = p.rest;
      wrote = p.wrote;
      waits = λ good. absurd (false≢true (sym good));
      kept = λ good. absurd (false≢true (sym good));
      counted = p.counted;
    }

    -- more of the text waits
    pub Prints-more : (a b : K) (failed : Bool) {waiting text : List ℕ} (more : List ℕ) → Prints got faults a b failed waiting text → Prints got faults a b failed (waiting ++ more) (text ++ more)
    Prints-more a b failed more p = record {
      rest = p.rest ++ more;
      wrote = record {
        front = p.wrote.front;
        split = ap (λ xs. xs ++ more) p.wrote.split ∙ append_assoc p.wrote.front p.rest more;
        wrote = p.wrote.wrote;
      };
      waits = λ good. ap (λ xs. xs ++ more) (p.waits good);
      kept = p.kept;
      counted = p.counted;
    }

    -- all was written, where nothing waits and no put failed
    pub Wrote-all : (a b : K) {text : List ℕ} → Prints got faults a b false [] text → Wrote got a b text
    Wrote-all a b p =
        let same = p.wrote.split ∙ ap (λ xs. p.wrote.front ++ xs) (p.waits refl) ∙ append-nil p.wrote.front in
        p.wrote.wrote ∙ ap (with_back (got a)) (sym same)
