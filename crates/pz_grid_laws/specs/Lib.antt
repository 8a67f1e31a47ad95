pub mod Laws
pub mod RuleLaws
