-- The code's exchanges, in the definitions' terms.
use Rattle.std.specs.Prelude.{ℕ}
use Rattle.symmetries.specs.declared.exchange.Exchange.{Exchange}
use Rattle.symmetries.specs.ObjectPairs.{pairs_in}
use Rattle.symmetries_definitions.specs.Exchanges as exchanges

abbrev pub exchange_of : Exchange → exchanges.Exchange
exchange_of e = pairs_in e.pairs.items

-- the image of an object
abbrev pub image : Exchange → ℕ → ℕ
image e = exchanges.image_of_object (exchange_of e)
