use Rattle.rlsf_model.proofs.Budgets.{frugal_runs_are_not_denied, modest_runs_are_not_denied, live_is_counted, bounded_runs_are_not_denied}
use Rattle.rlsf_model.proofs.Callers.{payload_is_in_block, callers_see_map}
use Rattle.rlsf_model.proofs.Chunks.{chunks_stay, inserted_chunks_lie_in_range}
use Rattle.rlsf_model.proofs.Cuts.{chunks_are_cut_off_the_front}
use Rattle.rlsf_model.proofs.Determined.{steps_are_determined, refusal_changes_nothing}
use Rattle.rlsf_model.proofs.FlexBudgets.{flex_never_asked}
use Rattle.rlsf_model.proofs.FlexCallers.{flex_callers_see_map}
use Rattle.rlsf_model.proofs.FlexGrowths.{growth_has_room, growth_keeps_well_formed}
use Rattle.rlsf_model.proofs.FlexPayloads.{flex_steps_change_map, flex_runs_change_map, flex_payloads_are_apart, flex_allocation_has_size, flex_reallocation_has_size}
use Rattle.rlsf_model.proofs.FlexPayloads.{flex_reallocation_keeps_bytes, flex_other_payloads_stay, flex_others_stay_in_runs, flex_used_was_used, flex_used_was_used_in_runs}
use Rattle.rlsf_model.proofs.FlexReplies.{flex_each_call_answers}
use Rattle.rlsf_model.proofs.FlexRuns.{flex_runs_are_runs}
use Rattle.rlsf_model.proofs.FlexSimilar.{flex_similar_states_agree, flex_similar_runs_agree}
use Rattle.rlsf_model.proofs.FlexSteps.{flex_empty_is_well_formed, flex_steps_keep_well_formed, flex_runs_keep_well_formed, flex_runs_are_steps}
use Rattle.rlsf_model.proofs.Live.{live_addresses_are_aligned, live_address_has_one_block, payloads_are_disjoint, payload_lies_in_one_chunk, allocation_has_size}
use Rattle.rlsf_model.proofs.Live.{reallocation_has_size, reallocation_keeps_bytes, other_payloads_stay, used_was_used, handed_out_is_new, reallocated_is_live, live_stays}
use Rattle.rlsf_model.proofs.Live.{released_is_not_live, filled_has_bytes, fill_leaves_others, deallocation_leaves_others}
use Rattle.rlsf_model.proofs.NoMove.{unmoved_is_reallocated}
use Rattle.rlsf_model.proofs.Orders.{order_means_nothing}
use Rattle.rlsf_model.proofs.PoolLengths.{budget_pool_is_enough, payload_pool_is_enough, object_pool_is_exact}
use Rattle.rlsf_model.proofs.Owed.{each_goes_back}
use Rattle.rlsf_model.proofs.Pools.{pool_has_room, idle_chunk_has_room}
use Rattle.rlsf_model.proofs.Removals.{removal_leaves_others}
use Rattle.rlsf_model.proofs.Replies.{each_call_answers}
use Rattle.rlsf_model.proofs.Room.{room_is_found, allocation_answers, refused_without_reach, choice_is_first_of_least, idle_chunk_is_one_range}
use Rattle.rlsf_model.proofs.Similar.{fill_is_similar, similar_states_agree}
use Rattle.rlsf_model.proofs.Steps.{empty_is_well_formed, steps_keep_well_formed, runs_keep_well_formed}
use Rattle.rlsf_model.proofs.Sums.{few_free, bytes_add_up, budget_is_enough}
use Rattle.rlsf_model.proofs.ShortChunks.{layout_pool_is_exact, payload_pool_is_exact}
use Rattle.rlsf_model.proofs.Uniform.{uniform_is_full, allocation_keeps_uniform, deallocation_keeps_uniform, runs_keep_uniform, uniform_runs_answer}
use Rattle.rlsf_model.proofs.laws.Goals as goal

pub returns-clause-steps : goal.returns-clause-steps
returns-clause-steps c = record {
  empty = empty_is_well_formed;
  steps = steps_keep_well_formed;
  runs = runs_keep_well_formed;
  determined = steps_are_determined;
  order = order_means_nothing;
  refusals = refusal_changes_nothing;
  cut = chunks_are_cut_off_the_front;
  aligned = live_addresses_are_aligned;
  one_block = live_address_has_one_block;
  disjoint = payloads_are_disjoint;
  in_one_chunk = payload_lies_in_one_chunk;
  allocated_size = allocation_has_size;
  reallocated_size = reallocation_has_size;
  room = room_is_found;
  pool_has_room = pool_has_room;
  answers = allocation_answers;
  refused = refused_without_reach;
  chosen = choice_is_first_of_least;
  idle = idle_chunk_is_one_range;
  chunks_stay = chunks_stay;
  others_stay = other_payloads_stay;
  handed_out = handed_out_is_new;
  moved = reallocated_is_live;
  live_stays = live_stays;
  released = released_is_not_live;
  filled = filled_has_bytes;
  fill_leaves = fill_leaves_others;
  release_leaves = deallocation_leaves_others;
  inserted_range = inserted_chunks_lie_in_range;
  was_used = used_was_used;
  similar = similar_states_agree;
  each_call = each_call_answers;
  kept_bytes = reallocation_keeps_bytes;
  in_block = payload_is_in_block;
  callers = callers_see_map;
  idle_room = idle_chunk_has_room;
  fill_similar = fill_is_similar;
  removal = removal_leaves_others;
  without_move = unmoved_is_reallocated;
}

pub returns-clause-sources : goal.returns-clause-sources
returns-clause-sources c = record {
  flex_callers = flex_callers_see_map;
  flex_empty = flex_empty_is_well_formed;
  flex_growth = growth_keeps_well_formed;
  flex_room = growth_has_room;
  flex_steps = flex_steps_keep_well_formed;
  flex_runs = flex_runs_keep_well_formed;
  flex_in_runs = flex_runs_are_steps;
  flex_as_runs = flex_runs_are_runs;
  flex_map = flex_steps_change_map;
  flex_map_runs = flex_runs_change_map;
  flex_apart = flex_payloads_are_apart;
  flex_allocated_size = flex_allocation_has_size;
  flex_reallocated_size = flex_reallocation_has_size;
  flex_kept_bytes = flex_reallocation_keeps_bytes;
  flex_others_stay = flex_other_payloads_stay;
  flex_was_used = flex_used_was_used;
  flex_others_stay_runs = flex_others_stay_in_runs;
  flex_was_used_runs = flex_used_was_used_in_runs;
  flex_similar = flex_similar_states_agree;
  flex_similar_runs = flex_similar_runs_agree;
  flex_each_call = flex_each_call_answers;
  each_goes_back = each_goes_back;
}

pub returns-clause-sizing : goal.returns-clause-sizing
returns-clause-sizing c = record {
  few_free = few_free;
  bytes = bytes_add_up;
  budget = budget_is_enough;
  modest_runs = modest_runs_are_not_denied;
  frugal_runs = frugal_runs_are_not_denied;
  live = live_is_counted;
  bounded_runs = bounded_runs_are_not_denied;
  uniform_full = uniform_is_full;
  uniform_allocation = allocation_keeps_uniform;
  uniform_release = deallocation_keeps_uniform;
  uniform_runs = runs_keep_uniform;
  uniform_answers = uniform_runs_answer;
  payload_pool = payload_pool_is_enough;
  budget_pool = budget_pool_is_enough;
  payload_pool_exact = payload_pool_is_exact;
  layout_pool_exact = layout_pool_is_exact;
  object_pool = object_pool_is_exact;
  flex_never_asked = flex_never_asked;
}
