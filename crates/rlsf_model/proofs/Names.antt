-- Names that the proofs have for parts of the model's definitions.
use Rattle.std.specs.Prelude.{ℕ, ◌+◌, ◌-◌, Bool, List, ◌∷◌, ◌++◌, ◌==◌, ◌&&◌, ◌||◌, if◌then◌else◌, find, map, nat_le, nat_lt, Option, Some, None}
use Rattle.std.specs.Bool.{then_some}
use Rattle.std.specs.Option.{option_map, option_map_or, option_to_list}
use Rattle.rlsf_base.specs.declared.memory.range.Range.{Range}
use Rattle.rlsf_base.specs.Range.{end_of, range_at}
use Rattle.rlsf_model_sizes.specs.SizeClass.{SizeClass}
use Rattle.rlsf_model.specs.Allocate.{rest_behind}
use Rattle.rlsf_model.specs.Callers.{Payload}
use Rattle.rlsf_model.specs.FlexState.{KeptPool}
use Rattle.rlsf_model.specs.Growth.{Questions, range_length}
use Rattle.rlsf_model.specs.Insert.{body}
use Rattle.rlsf_model.specs.Join.{ends_at, join, starts_at}
use Rattle.rlsf_model.specs.Lists.{without}
use Rattle.rlsf_model.specs.Note.{Note, alloc, grow}
use Rattle.rlsf_model.specs.Payload.{block_for, payload_of}
use Rattle.rlsf_model.specs.Reallocate.{Plan}
use Rattle.rlsf_model.specs.State.{State, Used, between, others}
use Rattle.rlsf_model.specs.Terms.{Terms}

-- the block that a used block would be at its own start
abbrev pub resized : Used → ℕ → Range
resized u size = block_for u.block.start u.payload size

-- the free ranges once a tail that is left over is joined to them
abbrev pub tail_joined : Range → ℕ → List Range → List Range
tail_joined block end free = if nat_lt (end_of block) end then join (between (end_of block) end) free else free

-- the used block as planned
abbrev pub moved : Used → Plan → List ℕ → Used
moved u p bytes = record { block = p.block; payload = p.payload; align = u.align; bytes = bytes }

-- the state once the used block u is as planned
abbrev pub replanned : State → Used → Plan → List ℕ → State
replanned s u p bytes = record { chunks = s.chunks; used = moved u p bytes ∷ others u.payload s.used; free = p.free }

-- a used block with other bytes
abbrev pub used_with_bytes : Used → List ℕ → Used
used_with_bytes u bytes = record { block = u.block; payload = u.payload; align = u.align; bytes = bytes }

-- a used block, with these bytes if its caller has the address
abbrev pub filled_if : ℕ → List ℕ → Used → Used
filled_if addr bytes u = if u.payload == addr then used_with_bytes u bytes else u

-- the used blocks, with these bytes in the one at an address
abbrev pub filled_at : ℕ → List ℕ → List Used → List Used
filled_at addr bytes used = map (filled_if addr bytes) used

-- the bytes behind the kept pool, up to the end of its range once that is so long
abbrev pub behind : KeptPool → ℕ → Range
behind k len = range_at (k.range.start + k.len) (len - k.len)

-- the plan into the previous range, where it is this one
abbrev pub previous_plan : State → Used → ℕ → Range → Option Plan
previous_plan s u size previous =
    let payload = payload_of previous.start u.align in
    let block = block_for previous.start payload size in
    let rest = without (ends_at u.block.start) s.free in
    let end = option_map_or end_of (find (starts_at (end_of u.block)) rest) (end_of u.block) in
    if nat_le (end_of block) end
    then Some (record { block = block; payload = payload; free = rest_behind block end ++ without (starts_at (end_of u.block)) rest })
    else None

-- what is asked where a pool is kept that is to be e bytes longer, by whether that is a length
abbrev pub fitting : Terms → KeptPool → ℕ → Bool → Questions
fitting t k e b =
    if b
    then record { growth = then_some t.grow (k.range, k.len + e); range = if t.contiguous then None else range_length t e }
    else record { growth = None; range = None }

-- the question for growth with its answer
abbrev pub growth_note : Option (Range × ℕ) → Option ℕ → List Note
growth_note growth answer = option_to_list (option_map (λ g. grow g.0 g.1 answer) growth)

-- the question for a range with its answer
abbrev pub range_note : Option ℕ → Option Range → List Note
range_note range answer = option_to_list (option_map (λ n. alloc n answer) range)

-- the payload of a used block
abbrev pub payload_in : Used → Payload
payload_in u = record { align = u.align; bytes = u.bytes }

-- the earlier one of two classes, or the only one
abbrev pub earlier : SizeClass → Option SizeClass → SizeClass
earlier c least = option_map_or (λ d. if nat_lt c.exponent d.exponent || (c.exponent == d.exponent && nat_le c.division d.division) then c else d) least c

-- the state with one more chunk, whose free range is the newest
abbrev pub with_chunk : Range → State → State
with_chunk c s = record { chunks = c ∷ s.chunks; used = s.used; free = body c ∷ s.free }
