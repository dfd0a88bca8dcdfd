use Rattle.std.proofs.Common.{◌<◌, get_or, sym, subst}
use Rattle.layer_core.specs.Machine.{Layout, opening}
use Rattle.layer_core.specs.Rights.{IsCellFor}
use Rattle.layer_core.proofs.Runs.{right_after, layout_stays}
use Rattle.layer_core.proofs.laws.each_claim_is_one_workers.Goals as goal

pub returns : goal.returns
returns c = λ n F P r bound l workers events laid posts p low claimed.
    let right = right_after (IsCellFor n F P r bound) l workers events laid posts in let same = layout_stays (opening l workers) events in
    right.below (get_or l.block_of p 0) (subst (λ (k : Layout). get_or l.block_of p 0 < k.blocks) (sym same) (laid.placed p low)) claimed
