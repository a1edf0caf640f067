pub mod NotedSteps
