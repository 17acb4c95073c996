use Rattle.std.proofs.Common.{subst, sym, ◌≡◌, ◌-◌, ◌∙◌, arith, inl, refl, rules, ap, ℕ, ◌+◌, ◌%◌, ◌≤◌}
use Rattle.rlsf_base.specs.declared.memory.range.Range.{Range}
use Rattle.rlsf_base.specs.Range.{end_of, range_at}
use Rattle.rlsf_base.specs.Space.{Space, range_of, with_word}
use Rattle.rlsf_base.specs.OpenSpace.{IsOwned, IsWritable}
use Rattle.rlsf_model.specs.State.{State}
use Rattle.rlsf_blocks.specs.StandsFor.{contents, StandsFor}
use Rattle.rlsf_blocks.specs.Steps.Extension.{IsExtensible, lengthened, more_block}
use Rattle.rlsf_blocks.proofs.LongerChunks.Extensions.{extension, here_more, here_extension, AreExtended, AreExtended-from, StandsFor-lengthened, Stays-extended, grown_stands, more_bytes, placed}
use Rattle.rlsf_blocks.proofs.Words.Stays.{IsPlacedAs, IsWritable-in, placed_as, placed_then, Stays, Stays-then}
use Rattle.rlsf_table.proofs.Costs.{Costs-then, Costs-written}
use Rattle.rlsf_blocks.proofs.extend.extend_chunk.Given as given
use Rattle.rlsf_blocks.proofs.extend.extend_chunk.Goals as goal
use Rattle.rlsf_blocks.proofs.extend.extend_chunk.Goals.{After-set_word-3, Start}

-- what is behind the chunk is the memory's own
owned : (m : Space) (d : Range) (end len : ℕ) → IsOwned m (range_at end len) → end_of d ≡ end → IsOwned m (range_at (end_of d) len)
owned m d end len own at = subst (λ e. IsOwned m (range_at e len)) (sym at) own

-- the three words are written
written : (g : given.Over) (c : After-set_word-3 g) {s : State} (d : Range) → StandsFor g.row.FLLEN g.row.SLLEN (contents c.args.memory.now c.args.table.now) s
    → IsExtensible g.row.FLLEN (range_of c.args.memory.now) s d c.args.len → end_of d ≡ c.args.end
    → AreExtended c.args.memory.now c.set_word.new.self c.set_word-2.new.self c.set_word-3.new.self d c.args.len
written g c d v is at =
    AreExtended-from v d c.args.len is (owned c.args.memory.now d c.args.end c.args.len c.requires.own at) at
    (c.set_word.ensures.start, c.set_word.ensures.bytes ∙ ap (λ w. with_word c.args.memory.now (c.args.end - 32) w) c.used_size_word.ensures, c.set_word.ensures.out)
    (c.set_word-2.ensures.start, c.set_word-2.ensures.bytes, c.set_word-2.ensures.out) (c.set_word-3.ensures.start, c.set_word-3.ensures.bytes, c.set_word-3.ensures.out)

pub overflow_sub-block : goal.overflow_sub-block
overflow_sub-block g c =
    let (s, d, v, is, at) = c.requires.extensible in
    omega (arith, at, (placed v d c.args.len is).room)

-- words of what the chunk has more can be written
writable : (g : given.Over) (c : Start g) {s : State} {d : Range} (v : StandsFor g.row.FLLEN g.row.SLLEN (contents c.args.memory.now c.args.table.now) s)
    → IsExtensible g.row.FLLEN (range_of c.args.memory.now) s d c.args.len → end_of d ≡ c.args.end → {n : Space} → IsPlacedAs c.args.memory.now n → (a : ℕ) → a % 8 ≡ 0
    → c.args.end - 32 ≤ a → a + 8 ≤ c.args.end + c.args.len → IsWritable n a
writable g c {d = d} v is at same a whole from to =
    let p = placed v d c.args.len is in
    IsWritable-in same (extension v d c.args.len is) (omega (arith, p.from, p.room), omega (arith, p.to, p.room))
    (here_extension v d c.args.len is (owned c.args.memory.now d c.args.end c.args.len c.requires.own at)) a whole
    (omega (arith, at, from)) (omega (arith, at, to, p.room))

pub set_word-requires : goal.set_word-requires
set_word-requires g c =
    let (s, d, v, is, at) = c.requires.extensible in
    let p = placed v d c.args.len is in
    let same = placed_as c.args.memory.now c.args.memory.now refl refl (λ a from. refl) in
    writable g (goal.at.set_word-requires g c).Start v is at same (c.args.end - 32) (omega (arith, p.start, p.length, at)) (omega arith) (omega (arith, p.room, at))

pub set_word-requires-2 : goal.set_word-requires-2
set_word-requires-2 g c =
    let (s, d, v, is, at) = c.requires.extensible in
    let p = placed v d c.args.len is in
    let one = placed_as c.args.memory.now c.set_word.new.self c.set_word.ensures.start c.set_word.ensures.len c.set_word.ensures.own in
    writable g (goal.at.set_word-requires-2 g c).Start v is at one (c.args.end - 32 + c.args.len) (omega (arith, p.start, p.length, p.more, at)) (omega arith)
    (omega (arith, p.room, at))

pub set_word-requires-3 : goal.set_word-requires-3
set_word-requires-3 g c =
    let (s, d, v, is, at) = c.requires.extensible in
    let p = placed v d c.args.len is in
    let first = c.set_word.ensures in
    let second = c.set_word-2.ensures in
    let one = placed_as c.args.memory.now c.set_word.new.self first.start first.len first.own in
    let two = placed_then one (placed_as c.set_word.new.self c.set_word-2.new.self second.start second.len second.own) in
    writable g (goal.at.set_word-requires-3 g c).Start v is at two (c.args.end - 32 + c.args.len + 8) (omega (arith, p.start, p.length, p.more, at)) (omega arith)
    (omega (arith, p.room, at))

pub deallocate_block-requires : goal.deallocate_block-requires
deallocate_block-requires g c =
    let (s, d, v, is, at) = c.requires.extensible in
    let len = c.args.len in
    let writes = written g (goal.at.deallocate_block-requires g c).After-set_word-3 d v is at in (
      omega arith,
      (
        c.requires.parameters,
        (
          (
            lengthened d len (more_bytes c.set_word-3.new.self d len) s,
            more_block d len (more_bytes c.set_word-3.new.self d len),
            StandsFor-lengthened v d len is writes (owned c.args.memory.now d c.args.end c.args.len c.requires.own at),
            inl refl,
            ap (λ e. e - 32) at,
            here_more v d len is writes (owned c.args.memory.now d c.args.end c.args.len c.requires.own at),
          ),
          search rules,
        ),
      ),
    )

pub returns : goal.returns
returns g c =
    let at_last = (goal.at.returns g c).After-set_word-3 in
    let n3 = c.set_word-3.new.self in
    let one = c.set_word.ensures in
    let two = c.set_word-2.ensures in
    let three = c.set_word-3.ensures in
    let (s, d, v, is, at) = c.requires.extensible in
    let extended = Stays-extended v d c.args.len is (written g at_last d v is at) in
    let freed : Stays n3 c.deallocate_block.new.memory =
    record { start = c.deallocate_block.ensures.costs.start; own = c.deallocate_block.ensures.own; here = c.deallocate_block.ensures.here } in
    let stays = Stays-then extended freed in
    record {
      step = λ s d v is at.
          let len = c.args.len in
          let writes = written g at_last d v is at in
          let bytes = more_bytes n3 d len in
          grown_stands v d len is writes (c.deallocate_block.ensures.step (lengthened d len bytes s) (more_block d len bytes)
          (StandsFor-lengthened v d len is writes (owned c.args.memory.now d c.args.end c.args.len c.requires.own at)) (inl refl)
          (ap (λ e. e - 32) at) (here_more v d len is writes (owned c.args.memory.now d c.args.end c.args.len c.requires.own at)));
      costs =
          let first = Costs-written c.args.memory.now c.set_word.new.self (c.args.end - 32) one.start one.len one.touches one.copied one.view one.out in
          let second = Costs-written c.set_word.new.self c.set_word-2.new.self (c.args.end - 32 + c.args.len) two.start two.len two.touches two.copied two.view two.out in
          let third = Costs-written c.set_word-2.new.self n3 (c.args.end - 32 + c.args.len + 8) three.start three.len three.touches three.copied three.view three.out in
          Costs-then (Costs-then (Costs-then first second) third) c.deallocate_block.ensures.costs;
      own = stays.own;
      here = stays.here;
    }
