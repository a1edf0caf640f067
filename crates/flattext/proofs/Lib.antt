-- Lemmas of texts: pieces that are put one behind another (Pieces), those of each item of a list (Each), processes behind their places (Placed), values as literals (Values), the
-- arguments of formats (Shown), operands at their levels (Operands), and the plain trees of expressions (Views) and statements (StatementViews).
pub mod Each
pub mod Operands
pub mod Pieces
pub mod Placed
pub mod Shown
pub mod StatementViews
pub mod Values
pub mod Views
