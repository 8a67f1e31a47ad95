use Rattle.std.proofs.Common.{◌≡◌, ◌++◌, drop, flat_map}
use Rattle.pz_describe.specs.Program.{block_tokens}
use Rattle.pz_describe.proofs.program.put_each.Given as goal

abbrev pub invariant-loop-block : goal.invariant-loop-block
invariant-loop-block l = l.page ++ flat_map (block_tokens l.rules) (drop l.block-index l.blocks) ≡ l.fn.page ++ flat_map (block_tokens l.rules) l.blocks
