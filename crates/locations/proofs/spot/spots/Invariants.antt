-- The tokens that are left are those of what is left, and spots of what is left complete those that were found.
use Rattle.std.proofs.Common.{◌-◌, ◌≤◌, ◌++◌, List, map, drop, length}
use Rattle.tokens.specs.Tokens.{plain_token}
use Rattle.tokens.specs.Lexing.{Cut}
use Rattle.locations.specs.Spots.{PlainSpot, AreSpots}
use Rattle.locations.specs.PlainSpots.{plain_spot}
use Rattle.locations.proofs.spot.spots.Given as goal

abbrev pub invariant-loop-token : goal.invariant-loop-token
invariant-loop-token l = record {
  within : length l.left ≤ length l.source;
  cut : Cut l.left (map plain_token (drop l.token-index l.token-items));
  spots : (ss : List PlainSpot) → AreSpots l.left (length l.source - length l.left) ss → AreSpots l.source 0 (map plain_spot l.found.items ++ ss);
}
