-- Which verdict a status tells.
use Rattle.std.proofs.Common.{◌≡◌, inl, inr, refl, arith}
use Rattle.lawful_pairs.specs.declared.Unlawful.{Unlawful}
use Rattle.report_text.specs.declared.refusal.WorkloadRefusal.{WorkloadRefusal}
use Rattle.bench_core.specs.declared.ending.Verdict.{Verdict}
use Rattle.bench_core.specs.declared.ending.Verdict.TheVariants as verdict
use Rattle.bench_core.specs.Ending.{status_of}
use Rattle.bench_core.proofs.Telling.{status_of_run-is}

pub is_WordsRefused : (found : Verdict) → status_of found ≡ 2 → found ≡ verdict.WordsRefused
is_WordsRefused verdict.WordsRefused is = refl
is_WordsRefused (verdict.Unlawful pair) is = absurd (omega arith)
is_WordsRefused verdict.ReadFault is = absurd (omega arith)
is_WordsRefused verdict.TooLong is = absurd (omega arith)
is_WordsRefused (verdict.WorkloadRefused cause) is = absurd (omega arith)
is_WordsRefused verdict.OutOfMemory is = absurd (omega arith)
is_WordsRefused (verdict.Checked sizes) is = absurd (omega arith)
is_WordsRefused (verdict.Generated text) is = absurd (omega arith)
is_WordsRefused (verdict.Played run) is = absurd (elim (status_of_run-is run) [ inl zero ↦ omega arith | inr five ↦ omega arith ])
is_WordsRefused (verdict.Tried run) is = absurd (elim (status_of_run-is run) [ inl zero ↦ omega arith | inr five ↦ omega arith ])

pub is_Unlawful : (found : Verdict) → status_of found ≡ 4 → (pair : Unlawful) × (found ≡ verdict.Unlawful pair)
is_Unlawful verdict.WordsRefused is = absurd (omega arith)
is_Unlawful (verdict.Unlawful pair) is = (pair, refl)
is_Unlawful verdict.ReadFault is = absurd (omega arith)
is_Unlawful verdict.TooLong is = absurd (omega arith)
is_Unlawful (verdict.WorkloadRefused cause) is = absurd (omega arith)
is_Unlawful verdict.OutOfMemory is = absurd (omega arith)
is_Unlawful (verdict.Checked sizes) is = absurd (omega arith)
is_Unlawful (verdict.Generated text) is = absurd (omega arith)
is_Unlawful (verdict.Played run) is = absurd (elim (status_of_run-is run) [ inl zero ↦ omega arith | inr five ↦ omega arith ])
is_Unlawful (verdict.Tried run) is = absurd (elim (status_of_run-is run) [ inl zero ↦ omega arith | inr five ↦ omega arith ])

pub is_ReadFault : (found : Verdict) → status_of found ≡ 6 → found ≡ verdict.ReadFault
is_ReadFault verdict.WordsRefused is = absurd (omega arith)
is_ReadFault (verdict.Unlawful pair) is = absurd (omega arith)
is_ReadFault verdict.ReadFault is = refl
is_ReadFault verdict.TooLong is = absurd (omega arith)
is_ReadFault (verdict.WorkloadRefused cause) is = absurd (omega arith)
is_ReadFault verdict.OutOfMemory is = absurd (omega arith)
is_ReadFault (verdict.Checked sizes) is = absurd (omega arith)
is_ReadFault (verdict.Generated text) is = absurd (omega arith)
is_ReadFault (verdict.Played run) is = absurd (elim (status_of_run-is run) [ inl zero ↦ omega arith | inr five ↦ omega arith ])
is_ReadFault (verdict.Tried run) is = absurd (elim (status_of_run-is run) [ inl zero ↦ omega arith | inr five ↦ omega arith ])

pub is_TooLong : (found : Verdict) → status_of found ≡ 9 → found ≡ verdict.TooLong
is_TooLong verdict.WordsRefused is = absurd (omega arith)
is_TooLong (verdict.Unlawful pair) is = absurd (omega arith)
is_TooLong verdict.ReadFault is = absurd (omega arith)
is_TooLong verdict.TooLong is = refl
is_TooLong (verdict.WorkloadRefused cause) is = absurd (omega arith)
is_TooLong verdict.OutOfMemory is = absurd (omega arith)
is_TooLong (verdict.Checked sizes) is = absurd (omega arith)
is_TooLong (verdict.Generated text) is = absurd (omega arith)
is_TooLong (verdict.Played run) is = absurd (elim (status_of_run-is run) [ inl zero ↦ omega arith | inr five ↦ omega arith ])
is_TooLong (verdict.Tried run) is = absurd (elim (status_of_run-is run) [ inl zero ↦ omega arith | inr five ↦ omega arith ])

pub is_WorkloadRefused : (found : Verdict) → status_of found ≡ 3 → (cause : WorkloadRefusal) × (found ≡ verdict.WorkloadRefused cause)
is_WorkloadRefused verdict.WordsRefused is = absurd (omega arith)
is_WorkloadRefused (verdict.Unlawful pair) is = absurd (omega arith)
is_WorkloadRefused verdict.ReadFault is = absurd (omega arith)
is_WorkloadRefused verdict.TooLong is = absurd (omega arith)
is_WorkloadRefused (verdict.WorkloadRefused cause) is = (cause, refl)
is_WorkloadRefused verdict.OutOfMemory is = absurd (omega arith)
is_WorkloadRefused (verdict.Checked sizes) is = absurd (omega arith)
is_WorkloadRefused (verdict.Generated text) is = absurd (omega arith)
is_WorkloadRefused (verdict.Played run) is = absurd (elim (status_of_run-is run) [ inl zero ↦ omega arith | inr five ↦ omega arith ])
is_WorkloadRefused (verdict.Tried run) is = absurd (elim (status_of_run-is run) [ inl zero ↦ omega arith | inr five ↦ omega arith ])

pub is_OutOfMemory : (found : Verdict) → status_of found ≡ 8 → found ≡ verdict.OutOfMemory
is_OutOfMemory verdict.WordsRefused is = absurd (omega arith)
is_OutOfMemory (verdict.Unlawful pair) is = absurd (omega arith)
is_OutOfMemory verdict.ReadFault is = absurd (omega arith)
is_OutOfMemory verdict.TooLong is = absurd (omega arith)
is_OutOfMemory (verdict.WorkloadRefused cause) is = absurd (omega arith)
is_OutOfMemory verdict.OutOfMemory is = refl
is_OutOfMemory (verdict.Checked sizes) is = absurd (omega arith)
is_OutOfMemory (verdict.Generated text) is = absurd (omega arith)
is_OutOfMemory (verdict.Played run) is = absurd (elim (status_of_run-is run) [ inl zero ↦ omega arith | inr five ↦ omega arith ])
is_OutOfMemory (verdict.Tried run) is = absurd (elim (status_of_run-is run) [ inl zero ↦ omega arith | inr five ↦ omega arith ])
