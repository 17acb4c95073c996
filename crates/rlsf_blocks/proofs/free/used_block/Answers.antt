use Rattle.std.proofs.Common.{rules, arith}
use Rattle.rlsf_blocks.proofs.Deallocate.Addresses.{IsReadable-before, narrow_start}
use Rattle.rlsf_model.proofs.Payloads.{IsUsed-after_start}
use Rattle.rlsf_blocks.proofs.free.used_block.Goals as goal

pub overflow_sub-result : goal.overflow_sub-result
overflow_sub-result c =
    let (fllen, sllen, t, s, v, (u, (i, at), is)) = c.requires.live in
    omega (arith, at, IsUsed-after_start u (v.well_formed.used u i))

pub overflow_sub-payload : goal.overflow_sub-payload
overflow_sub-payload c =
    let (fllen, sllen, t, s, v, (u, (i, at), is)) = c.requires.live in
    omega (arith, at, IsUsed-after_start u (v.well_formed.used u i))

pub load_at-requires-clause-place : goal.load_at-requires-clause-place
load_at-requires-clause-place c =
    let (fllen, sllen, t, s, v, (u, (i, at), is)) = c.requires.live in
    IsReadable-before v u i at is c.if-align-lt-GRANULARITY.false

pub returns-then-align-lt-GRANULARITY : goal.returns-then-align-lt-GRANULARITY
returns-then-align-lt-GRANULARITY c = record {
  block = λ fllen sllen t s v (u, (i, at), is).
      (u, (i, at), is, omega (arith, narrow_start v u i at is c.if-align-lt-GRANULARITY.true));
  counts = search rules;
}
