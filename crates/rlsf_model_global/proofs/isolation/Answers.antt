use Rattle.rlsf_model_global.proofs.Histories.{histories_keep_heap, steps_keep_heap, unnamed_stays, unnamed_stays_throughout}
use Rattle.rlsf_model_global.proofs.LastStepsDecide.{beginning_is_heap, histories_list_payloads, payloads_are_isolated}
use Rattle.rlsf_model_global.proofs.AddressesLeft.{allocation_leaves, deallocation_leaves, payloads_are_apart, payloads_serve, read_tells, write_leaves}
use Rattle.rlsf_model_global.proofs.Moved.{reallocation_as_leaves, reallocation_leaves, reallocation_there_leaves}
use Rattle.rlsf_model_global.proofs.isolation.Goals as goal

pub returns : goal.returns
returns c = record {
  beginning = beginning_is_heap;
  steps = steps_keep_heap;
  histories = histories_keep_heap;
  unnamed = unnamed_stays;
  unnamed_throughout = unnamed_stays_throughout;
  isolated = payloads_are_isolated;
  listed = histories_list_payloads;
  serve = payloads_serve;
  apart = payloads_are_apart;
  allocated = allocation_leaves;
  deallocated = deallocation_leaves;
  written = write_leaves;
  read = read_tells;
  reallocated_as = reallocation_as_leaves;
  reallocated = reallocation_leaves;
  reallocated_there = reallocation_there_leaves;
}
