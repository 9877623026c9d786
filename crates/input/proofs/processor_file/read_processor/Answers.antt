use Rattle.std.proofs.Common.{sym, refl, arith, ltb-false}
use Rattle.std.proofs.lemmas.Result.{err_from_is_err_and}
use Rattle.input.specs.ProcessorFiles.{listed, in_header, no_mode}
use Rattle.input.proofs.Walking.{listed_none, entries_first, entries_more, entries_stopped, entries_faulty, entries_refused, entries_end}
use Rattle.input.proofs.processor_file.read_processor.Goals as goal

pub returns-in_err-entries : goal.returns-in_err-entries
returns-in_err-entries c =
    let p = err_from_is_err_and c.from_residual.result c.from_residual.ensures.1 in
    rw (p.1, p.2) (in_header c.in_err-entries.ensures)

pub loop-line-init : goal.loop-line-init
loop-line-init c =
    entries_first c.args.file.now c.in_ok-entries.entries c.into_iter-line-iterator.result (listed c.in_ok-table.table) c.in_ok-entries.ensures c.into_iter-line-iterator.ensures.into_iter_gives
    (listed_none _ _ _ c.in_ok-table.ensures.modes c.in_ok-table.ensures.switches c.in_ok-table.ensures.frames)

pub returns-in_err-line : goal.returns-in_err-line
returns-in_err-line c =
    let p = err_from_is_err_and c.from_residual-in_err-line.result c.from_residual-in_err-line.ensures.1 in
    rw (p.1, p.2) (entries_stopped c.args.file.now c.loop-line.line-iterator _ c.in-Some.line _ (listed c.loop-line.table) c.loop-line.invariant c.in-Some.ensures.steps c.in_err-line.was)

pub returns-in_err-entry : goal.returns-in_err-entry
returns-in_err-entry c =
    let p = err_from_is_err_and c.from_residual-in_err-entry.result c.from_residual-in_err-entry.ensures.1 in
    rw (p.1, p.2) (entries_faulty c.args.file.now c.loop-line.line-iterator _ c.in-Some.line c.in_ok-line.line _ (listed c.loop-line.table) c.loop-line.invariant c.in-Some.ensures.steps c.in_ok-line.was c.in_err-entry.ensures)

pub returns-in_err-list : goal.returns-in_err-list
returns-in_err-list c =
    let p = err_from_is_err_and c.from_residual-in_err-list.result c.from_residual-in_err-list.ensures.1 in
    rw (p.1, p.2) (entries_refused c.args.file.now c.loop-line.line-iterator _ c.in-Some.line c.in_ok-line.line c.in_ok-entry.entry _ (listed c.loop-line.table) c.loop-line.invariant c.in-Some.ensures.steps c.in_ok-line.was c.in_ok-entry.ensures c.in_err-list.ensures.answer)

pub loop-line-preserved : goal.loop-line-preserved
loop-line-preserved c =
    entries_more c.args.file.now c.loop-line.line-iterator c.next.new.self c.in-Some.line c.in_ok-line.line c.in_ok-entry.entry (listed c.loop-line.table) (listed c.list.new.table) c.loop-line.invariant c.in-Some.ensures.steps c.in_ok-line.was c.in_ok-entry.ensures c.in_ok-list.ensures.answer c.in_ok-list.ensures.entered

pub returns : goal.returns
returns c =
    let e = entries_end c.args.file.now c.loop-line.line-iterator _ (listed c.loop-line.table) c.loop-line.invariant c.in-None.ensures.steps in
    no_mode e.0 e.1 (omega (arith, ltb-false _ _ (sym c.if-has_mode.ensures))) refl
