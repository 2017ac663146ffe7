-- Each row of the table follows from the definitions, the module's and the model's.
-- Assumes nothing.
use mathlib.Core.Path.{refl}
use Rattle.words.specs.Words.{bit, any_bit, share}
use Rattle.mdio.specs.Frame.{asked, request_of}
use Rattle.registers.specs.Map.{rows, register_at}
use Rattle.action.specs.Action.{action_of}
use Rattle.nvr.specs.Command.{command_of}
use Rattle.store.specs.Bytes.{zeros}
use Rattle.differing.specs.Differing.{differences}
use Rattle.flags.specs.Flags.{flags_of}
use Rattle.creation.specs.Creation.{make}
use Rattle.xenpak.specs.Frame.{frame}
use Rattle.xenpak.specs.Calls as calls
use Rattle.calls.specs.Calls.{step, run}
use Rattle.guarantees.specs.Reference.{zero_copy, frame_of, cut_ref, tick_ref, command_job, commanded, written, read_ref, frame_ref, call_ref, step_ref}
use Rattle.guarantees.specs.BurnLog.{call_log, step_log, burn_log}
use Rattle.guarantees.specs.History.{frame_event, call_event, step_event, run_model, latest_has, some_since, line_by_history}
use Rattle.guarantees.specs.Behaviour.{make_refusal, remembered, word_of, read_at, call_said, step_said, answers_by_model, full_count, along_model}
use Rattle.guarantees.specs.Guarantees.{answers, along}
use Rattle.table.specs.Table.{table, expected, result, result_by_model, expected_log, log_of, Cases}

pub cases : Cases
unfolding table expected result result_by_model expected_log log_of bit any_bit share make answers along run step frame calls.power_on calls.power_cut calls.tick calls.lines calls.sample action_of request_of asked register_at rows command_of zeros differences flags_of make_refusal answers_by_model along_model run_model step_said call_said read_at word_of remembered full_count step_event call_event frame_event latest_has some_since line_by_history step_ref call_ref frame_ref frame_of zero_copy tick_ref cut_ref command_job commanded written read_ref burn_log step_log call_log
cases = record { module_does = refl; model_does = refl; log = refl }
