-- What the code goes by: the plan's own order. What it means that an order holds each index once stands in `reorder`.
pub mod PlanOrder
