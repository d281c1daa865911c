use Rattle.std.proofs.Common.{◌-◌, Some, length, take, drop, refl, sym, ap, ◌∙◌, subst}
use Rattle.std.proofs.lemmas.Bool.{false≢true}
use Rattle.command_words.specs.Commands.{IsKnown}
use Rattle.command_words.specs.Words.{names_of, texts_of}
use Rattle.command_words.specs.declared.command.Command.{Command}
use Rattle.command_words.proofs.Commands.{asks, meets, same_command}
use Rattle.command_words.proofs.Pairs.{ArePairs-once}
use Rattle.command_words.proofs.reading.read_command.Goals as goal

pub returns-then-not-are_pairs-clause-only : goal.returns-then-not-are_pairs-clause-only
returns-then-not-are_pairs-clause-only c = λ command is.
    let a = asks c.args.words.now c.first-item.result c.in-len1-up.len_at_least c.first-item.is c.in_ok-mode.mode (sym c.as_str.ensures.value ∙ c.in_ok-mode.ensures) command is in
    absurd (false≢true (c.if-not-are_pairs.ensures.1 a.1))

pub chosen_of-requires : goal.chosen_of-requires
chosen_of-requires c = ArePairs-once (names_of c.in_ok-mode.mode) (texts_of (take (length c.args.words.now - 1) (drop 1 c.args.words.now))) (c.if-not-are_pairs.ensures.0 refl)

pub returns-then-not-is_known-clause-only : goal.returns-then-not-is_known-clause-only
returns-then-not-is_known-clause-only c = λ command is.
    let a = asks c.args.words.now c.first-item.result c.in-len1-up.len_at_least c.first-item.is c.in_ok-mode.mode (sym c.as_str.ensures.value ∙ c.in_ok-mode.ensures) command is in
    let behind = texts_of (take (length c.args.words.now - 1) (drop 1 c.args.words.now)) in
    let once = ArePairs-once (names_of c.in_ok-mode.mode) behind (c.if-not-are_pairs.ensures.0 refl) in
    let same = same_command behind once command c.in_ok-command.command (a.0 ∙ sym c.in_ok-command.ensures.0) a.2 c.in_ok-command.ensures.1 in
    absurd (false≢true (c.if-not-is_known.ensures.1 (subst (λ (x : Command). IsKnown x) same a.3)))

pub returns-clause-found : goal.returns-clause-found
returns-clause-found c =
    meets c.args.words.now c.first-item.result c.in-len1-up.len_at_least c.first-item.is c.in_ok-mode.mode (sym c.as_str.ensures.value ∙ c.in_ok-mode.ensures)
    c.in_ok-command.command c.in_ok-command.ensures.0 (c.if-not-are_pairs.ensures.0 refl) c.in_ok-command.ensures.1 (c.if-not-is_known.ensures.0 refl)

pub returns-clause-only : goal.returns-clause-only
returns-clause-only c = λ command is.
    let a = asks c.args.words.now c.first-item.result c.in-len1-up.len_at_least c.first-item.is c.in_ok-mode.mode (sym c.as_str.ensures.value ∙ c.in_ok-mode.ensures) command is in
    let behind = texts_of (take (length c.args.words.now - 1) (drop 1 c.args.words.now)) in
    let once = ArePairs-once (names_of c.in_ok-mode.mode) behind (c.if-not-are_pairs.ensures.0 refl) in
    ap Some (same_command behind once c.in_ok-command.command command (c.in_ok-command.ensures.0 ∙ sym a.0) c.in_ok-command.ensures.1 a.2)
