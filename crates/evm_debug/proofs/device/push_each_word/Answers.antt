use Rattle.std.proofs.Common.{◌≡◌, ◌<◌, ◌≤◌, ◌++◌, ◌∙◌, ℕ, List, Option, Some, None, Ok, length, ap, subst, arith, rules}
use Rattle.std.proofs.lemmas.Result.{err_from_is_err_and}
use Rattle.std.specs.Prelude.{slice_get}
use Rattle.evm_journal.specs.evm_core.Views.{device_word}
use Rattle.evm_journal.specs.evm_text.Appending.{Appends}
use Rattle.evm_journal.proofs.evm_text.Appending.{appends_none, appends_more, appends_front}
use Rattle.evm_debug.specs.Pieces.{words_in}
use Rattle.evm_debug.specs.Views.{blank_word, words_below}
use Rattle.evm_debug.proofs.Below.{words_below-none, words_below-more, words_below-longer}
use Rattle.evm_debug.proofs.DeviceWords.{few_words, is_within, word_found, words_over}
use Rattle.evm_debug.proofs.device.push_each_word.Goals as goal

pub words-init : goal.words-init
words-init g c = record { appended = appends_none _ _ (words_below-none _); within = omega arith }

pub overflow_add-k : goal.overflow_add-k
overflow_add-k g c =
    let devices = c.args.machine.now.board.memory.devices in
    let words : List ℕ = words_in (slice_get devices c.args.i) in
    let within : c.words.k < length words = is_within words c.words.k c.in-Some.word (word_found devices c.args.i c.words.k c.in-Some.word c.in-Some.ensures) in
    let few : length words ≤ 256 = few_words devices c.args.i c.rules.ensures.good.devices in
    omega (arith, within, few)

pub words-smaller : goal.words-smaller
words-smaller g c =
    let devices = c.args.machine.now.board.memory.devices in
    let words : List ℕ = words_in (slice_get devices c.args.i) in
    let within : c.words.k < length words = is_within words c.words.k c.in-Some.word (word_found devices c.args.i c.words.k c.in-Some.word c.in-Some.ensures) in
    omega (arith, within)

pub words-preserved : goal.words-preserved
words-preserved g c =
    let devices = c.args.machine.now.board.memory.devices in
    let words : List ℕ = words_in (slice_get devices c.args.i) in
    let is : slice_get words c.words.k ≡ Some c.in-Some.word = word_found devices c.args.i c.words.k c.in-Some.word c.in-Some.ensures in
    let within : c.words.k < length words = is_within words c.words.k c.in-Some.word is in
    record {
      appended = appends_more _ _ _ _ _ _ c.words.invariant.appended c.in_ok-push_word.ensures (words_below-more c.words.k words ∙ ap (λ (o : Option ℕ). words_below c.words.k words ++ blank_word o) is);
      within = omega (arith, within);
    }

pub returns-in_err-push_word : goal.returns-in_err-push_word
returns-in_err-push_word g c =
    let devices = c.args.machine.now.board.memory.devices in
    let words : List ℕ = words_in (slice_get devices c.args.i) in
    let is : slice_get words c.words.k ≡ Some c.in-Some.word = word_found devices c.args.i c.words.k c.in-Some.word c.in-Some.ensures in
    let within : c.words.k < length words = is_within words c.words.k c.in-Some.word is in
    let size = ap (λ (o : Option ℕ). length (blank_word o)) is in
    let longer = words_below-longer c.words.k (length words) words within in
    let p = err_from_is_err_and c.from_residual.result c.from_residual.ensures.1 in
    rw (p.1, p.2) (appends_front _ _ _ _ _ _ _ c.words.invariant.appended c.in_err-push_word.ensures (omega (arith, size, longer)))

pub returns : goal.returns
returns g c =
    let devices = c.args.machine.now.board.memory.devices in
    let words : List ℕ = words_in (slice_get devices c.args.i) in
    let none : device_word c.args.i c.words.k devices ≡ None = search rules in
    let past : length words ≤ c.words.k = words_over devices c.args.i c.words.k none in
    let all : c.words.k ≡ length words = omega (arith, past, c.words.invariant.within) in
    subst (λ (k : ℕ). Appends (words_below k words) c.args.out.now c.words.out (Ok tt)) all c.words.invariant.appended
