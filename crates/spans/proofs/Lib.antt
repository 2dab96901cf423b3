pub mod HeldLaws
