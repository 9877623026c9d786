use Rattle.std.proofs.Common.{mul-le-mul_right, arith}
use Rattle.supply.specs.LayersLemmas.{answer_small}
use Rattle.supply.proofs.share.SharePlatform.supplied.Goals as goal

pub overflow_mul-parts : goal.overflow_mul-parts
overflow_mul-parts g c =
    let below = c.args.self.now.below in
    let drive = c.args.drive.now in
    let h = answer_small drive (g.P.Platform.supply below drive) (g.met.P.Platform.lawful below drive) c.args.window _ c.in_ok-cycles.ensures in
    let k = mul-le-mul_right c.from.result h in
    omega (arith, c.args.self.now.part, c.args.self.now.limit)
