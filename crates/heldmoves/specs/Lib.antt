pub mod WithoutHeld
pub mod HeldMoves
