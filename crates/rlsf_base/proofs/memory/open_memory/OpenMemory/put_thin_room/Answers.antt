use Rattle.std.proofs.Common.{rules, ◌≡◌, ap, length, refl}
use Rattle.rlsf_base.specs.OpenSpace.{out_raw}
use Rattle.rlsf_base.specs.Out.{raw}
use Rattle.rlsf_base.specs.Piece.{piece_range}
use Rattle.rlsf_base.specs.Range.{LiesIn}
use Rattle.rlsf_base.specs.Space.{Space}
use Rattle.rlsf_base.specs.Steps.Block.{start_of}
use Rattle.rlsf_base.proofs.Lending.BytesBeside.{changed-own, changed-own_stays, changed-stays}
use Rattle.rlsf_base.proofs.Lending.Memories.{with_contents}
use Rattle.rlsf_base.proofs.memory.open_memory.OpenMemory.put_thin_room.Goals as goal

pub returns : goal.returns
returns c =
    let m = c.self.inside in let p = c.args.bytes.piece in let now = c.args.self.now in
    let n : Space = with_contents now (start_of m.shift m.len_and_skip) c.put_room.new.self.bytes c.put_room.new.self.out in
    let start : n.start ≡ now.start = ap (λ (s : Space). s.start) c.self.view_is in
    let out : n.out ≡ out_raw now (piece_range p) = search rules in
    let lies : LiesIn (piece_range p) now.start (length now.bytes) = search rules in
    record {
      away = search rules;
      memory = record { start = start; view = search rules; bytes = search rules; out = out };
      counts = search rules;
      own = changed-own raw now n (piece_range p) lies.0 start out refl;
      beside = record {
        here = changed-stays raw now n (piece_range p) lies.0 start out;
        own = changed-own_stays raw now n (piece_range p) lies.0 start out;
      };
    }
