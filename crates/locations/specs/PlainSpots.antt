-- What the spots of the program stand for.
use Rattle.tokens.specs.Tokens.{plain_token}
use Rattle.locations.specs.declared.spot.Spot.{Spot}
use Rattle.locations.specs.Spots.{PlainSpot}

-- The plain token, and the byte.
abbrev pub plain_spot : Spot → PlainSpot
plain_spot s = record { token = plain_token s.token; byte = s.byte }
