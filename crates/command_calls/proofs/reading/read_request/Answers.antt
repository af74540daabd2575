use Rattle.std.proofs.lemmas.Result.{err_from_is_err_and}
use Rattle.command_calls.proofs.RequestLaws.{complete, files_refused, left_over, no_file_count, no_word_count, words_refused}
use Rattle.command_calls.proofs.reading.read_request.Goals as goal

pub returns-in_default-clause-err : goal.returns-in_default-clause-err
returns-in_default-clause-err c = no_word_count _ c.in_default.ensures

pub returns-in_default-split_number-clause-err : goal.returns-in_default-split_number-clause-err
returns-in_default-split_number-clause-err c =
    no_file_count c.args.request.now c.in-Some.word_count c.in-Some.rest.now c.in-Some.ensures c.in_default-split_number.ensures

pub returns-in_err-behind-clause-err : goal.returns-in_err-behind-clause-err
returns-in_err-behind-clause-err c =
    let p = err_from_is_err_and c.from_residual.result c.from_residual.ensures.1 in
    rw (p.1, p.2) (words_refused _ _ _ _ _ c.in-Some.ensures c.in-Some-split_number.ensures
    c.in_err-behind.field-0.0 c.in_err-behind.ensures.err)

pub returns-in_err-behind-2-clause-err : goal.returns-in_err-behind-2-clause-err
returns-in_err-behind-2-clause-err c =
    let p = err_from_is_err_and c.from_residual-in_err-behind-2.result c.from_residual-in_err-behind-2.ensures.1 in
    rw (p.1, p.2) (files_refused _ _ _ _ _ c.in-Some.ensures c.in-Some-split_number.ensures
    c.read_words.new.words c.in_ok-behind.behind.now c.in_err-behind-2.field-0.0 c.in_ok-behind.ensures.ok c.in_err-behind-2.ensures.err)

pub returns-then-not-is_empty-clause-err : goal.returns-then-not-is_empty-clause-err
returns-then-not-is_empty-clause-err c =
    left_over _ _ _ _ _ c.in-Some.ensures c.in-Some-split_number.ensures
    c.read_words.new.words _ c.read_files.new.shelf.files _ c.in_ok-behind.ensures.ok c.in_ok-behind-2.ensures.ok c.if-not-is_empty.ensures

pub returns-clause-ok : goal.returns-clause-ok
returns-clause-ok c =
    complete _ _ _ _ _ c.in-Some.ensures c.in-Some-split_number.ensures
    c.read_words.new.words _ c.read_files.new.shelf.files _ c.in_ok-behind.ensures.ok c.in_ok-behind-2.ensures.ok c.if-not-is_empty.ensures
