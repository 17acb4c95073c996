use Rattle.std.proofs.Common.{rules, sym, subst}
use Rattle.rlsf_model.specs.ChunkRows.{IsRow}
use Rattle.rlsf_blocks.specs.Blocks.{AreBlocks, walked}
use Rattle.rlsf_blocks.specs.Laws.{read_from}
use Rattle.rlsf_tlsf.specs.Allocator.{Allocator}
use Rattle.rlsf_tlsf.proofs.Opened.{IsAllocator-opened, view-opened}
use Rattle.rlsf_tlsf.proofs.tlsf.Tlsf.iter_blocks.Goals as goal

pub walk_blocks-requires : goal.walk_blocks-requires
walk_blocks-requires g c =
    let row = subst (λ (o : Allocator). IsRow o.state (walked c.args.range)) (sym (view-opened c.self-inside.view_is c.self.view_is)) c.requires in (
      g.row.FLLEN,
      g.row.SLLEN,
      c.self-inside.inside.0.1.0,
      read_from c.self-inside.inside.0.0.inner c.self-inside.inside.0.1.1.0.state,
      (IsAllocator-opened c.self-inside.view_is c.self.invariant).stands,
      row,
    )

pub returns : goal.returns
returns g c =
    let view = view-opened c.self-inside.view_is c.self.view_is in
    record {
      blocks =
          let row = subst (λ (o : Allocator). IsRow o.state (walked c.args.range)) (sym view) c.requires in
          subst (λ (o : Allocator). AreBlocks o.state (walked c.args.range) c.walk_blocks.result) view
          (c.walk_blocks.ensures.blocks g.row.FLLEN g.row.SLLEN c.self-inside.inside.0.1.0 (read_from c.self-inside.inside.0.0.inner c.self-inside.inside.0.1.1.0.state)
          (IsAllocator-opened c.self-inside.view_is c.self.invariant).stands row);
      runs = search rules;
    }
