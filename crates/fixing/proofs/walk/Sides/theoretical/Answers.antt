use Rattle.std.proofs.Common.{◌≡◌, MatchOption, rules}
use Rattle.fixing.specs.Results.{TakenFrom, no_price}
use Rattle.fixing.proofs.Theory.{promises_of_best}
use Rattle.fixing.proofs.walk.Sides.theoretical.Goals as goal

pub returns : goal.returns
returns c =
    let taken : MatchOption c.best_offer.result (c.map_or.result ≡ no_price) (λ o. TakenFrom o c.map_or.result) = search rules in
    let (is, only, most) = promises_of_best c.args.self.now.buys.now c.args.self.now.sells.now c.args.base c.best_offer.result c.map_or.result c.best_offer.ensures taken in
    record { result = is; only = only; trades_the_most = most }
