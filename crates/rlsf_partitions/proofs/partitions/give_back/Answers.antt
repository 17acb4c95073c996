use Rattle.rlsf_partitions.proofs.Lists.{given_before, given_freed, given_kept, given_room}
use Rattle.rlsf_partitions.proofs.partitions.give_back.Goals as goal

pub returns-clause-freed : goal.returns-clause-freed
returns-clause-freed c = given_freed c.give_back_at.ensures

pub returns-clause-before : goal.returns-clause-before
returns-clause-before c = given_before c.give_back_at.ensures

pub returns-clause-room : goal.returns-clause-room
returns-clause-room c = given_room c.give_back_at.ensures

pub returns-clause-kept : goal.returns-clause-kept
returns-clause-kept c = given_kept c.give_back_at.ensures
